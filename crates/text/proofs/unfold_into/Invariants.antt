use lib.ListN.{length}
use Prim.Native.Nat.{◌-◌}
use Rattle.text.proofs.Unfolding.{Passed}
use Rattle.text.proofs.unfold_into.Given as goal

abbrev pub invariant-loop-n : goal.invariant-loop-n
invariant-loop-n l = Passed l.cal l.initial.work l.work l.n l.i

abbrev pub decreases-loop-n : goal.decreases-loop-n
decreases-loop-n l = length l.cal - l.i
