use Rattle.text.specs.Unfolding.{Nowhere}
use Rattle.line.specs.WellFormed.{control_at}
use Rattle.line.proofs.check.next_control.Given as goal

abbrev pub invariant-loop-i : goal.invariant-loop-i
invariant-loop-i l = Nowhere control_at l.s l.from l.i
