-- `text::break_in` meets its contract: CR LF begins at no place that is tested and comes before the count.
use Rattle.text.specs.Unfolding.{is_break}
use Rattle.text.specs.Lines.{break_at}
use Rattle.text.proofs.Unfolding.{scanned_start, scanned_stop, scanned_pass, scanned_end}
use native.Mathlib.Omega.{arith}
use Rattle.text.proofs.break_in.Goals.{then-s-at, else-s-at}
use Rattle.text.proofs.break_in.Goals as goal

pub loop-k-init : goal.loop-k-init
loop-k-init c = scanned_start _ _ _ _

pub loop-k-preserved : goal.loop-k-preserved
unfolding break_at is_break
loop-k-preserved c =
    let p = c.loop-k.invariant in
    let h = c.loop-k-test.true in
    elim c.if-s-at.branch [
      | then-s-at w ↦ scanned_stop p h (omega arith) (omega arith)
      | else-s-at w ↦ scanned_pass p h (rw c.from.ensures at w.if-s-at.false) (omega arith)
    ]

pub returns : goal.returns
returns c = scanned_end c.loop-k.invariant c.loop-k-test.false (omega arith)
