-- `line::scan::pass_value` meets its contract: its first byte leads the scanner between quotes or into a value without them, and the call goes on from there.
use Rattle.line.specs.declared.scan.State.TheVariants.{ValueStart, Quoted, Unquoted}
use Rattle.line.proofs.Scanner.{leads_on, leads_byte, leads_after, quote_opens}
use Rattle.line.proofs.Grammar.{unquoted_starts}
use Prim.Native.Nat.{◌+◌}
use mathlib.Core.Path.{sym, ◌∙◌}
use Rattle.line.proofs.scan.pass_value.Goals as goal

pub returns-then-b-eq34 : goal.returns-then-b-eq34
returns-then-b-eq34 c =
    let e = c.args in
    leads_on e.line.now ValueStart Quoted _ e.from (e.from + 1) _
    (leads_byte e.line.now ValueStart Quoted e.from 34 c.if-from-line.true c.if-b-eq34.true quote_opens)
    c.pass_string.ensures

pub returns-then-is_unquoted : goal.returns-then-is_unquoted
returns-then-is_unquoted c =
    let line = c.args.line.now in
    let start = c.args.from in
    let inside = c.if-from-line.true in
    let usual = sym c.is_unquoted.ensures ∙ c.if-is_unquoted.true in
    let passed = c.pass_unquoted.ensures in
    leads_after line ValueStart Unquoted Unquoted start _ inside (sym (unquoted_starts _ usual)) passed
