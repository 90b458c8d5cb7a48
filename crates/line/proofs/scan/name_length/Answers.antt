-- `line::scan::name_length` meets its contract: the bytes passed are name bytes, so those counted from the rest and those passed are all.
use Rattle.line.proofs.ScannerNames.{bytes_here, bytes_on, bytes_end}
use mathlib.Core.Path.{◌≡◌, sym, ◌∙◌}
use lib.ListN.{length}
use native.Mathlib.Omega.{arith}
use Rattle.line.proofs.scan.name_length.Goals as goal

pub returns-then-not-is_name_byte : goal.returns-then-not-is_name_byte
returns-then-not-is_name_byte c = sym (bytes_here _ _ c.loop-i-test.true (sym c.is_name_byte.ensures ∙ c.if-not-is_name_byte.true)) ∙ c.loop-i.invariant

pub loop-i-preserved : goal.loop-i-preserved
loop-i-preserved c = bytes_on _ _ c.loop-i-test.true (sym c.is_name_byte.ensures ∙ c.if-not-is_name_byte.false) ∙ c.loop-i.invariant

pub returns : goal.returns
returns c =
    let end : c.loop-i.i ≡ length c.args.line.now = omega arith in
    sym end ∙ sym (bytes_end _ _ (omega arith)) ∙ c.loop-i.invariant
