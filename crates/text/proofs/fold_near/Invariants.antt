use Rattle.text.specs.Unfolding.{fold_at}
use Rattle.text.proofs.Unfolding.{Tested}
use Rattle.text.proofs.fold_near.Given as goal

abbrev pub invariant-loop-k : goal.invariant-loop-k
invariant-loop-k l = Tested fold_at l.s l.i 16 l.k l.found
