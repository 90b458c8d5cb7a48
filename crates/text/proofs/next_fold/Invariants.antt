use Rattle.text.specs.Unfolding.{fold_at, Nowhere}
use Rattle.text.proofs.next_fold.Given as goal

abbrev pub invariant-loop-i : goal.invariant-loop-i
invariant-loop-i l = Nowhere fold_at l.s l.from l.i
