-- `line::check::control_in` meets its contract: no control stands at a place that is tested and comes before the count.
use Rattle.line.specs.WellFormed.{control_at}
use Rattle.text.proofs.Unfolding.{scanned_start, scanned_stop, scanned_pass, scanned_end}
use mathlib.Core.Path.{sym, ◌∙◌}
use native.Mathlib.Omega.{arith}
use Rattle.line.proofs.check.control_in.Goals.{then-is_control, else-is_control}
use Rattle.line.proofs.check.control_in.Goals as goal

pub loop-k-init : goal.loop-k-init
loop-k-init c = scanned_start _ _ _ _

pub loop-k-preserved : goal.loop-k-preserved
unfolding control_at
loop-k-preserved c =
    let inv = c.loop-k.invariant in
    let more = c.loop-k-test.true in
    elim c.if-is_control.branch [
      | then-is_control w ↦ scanned_stop inv more (omega arith) (omega arith)
      | else-is_control w ↦ scanned_pass inv more (sym c.is_control.ensures ∙ w.if-is_control.false) (omega arith)
    ]

pub returns : goal.returns
returns c = scanned_end c.loop-k.invariant c.loop-k-test.false (omega arith)
