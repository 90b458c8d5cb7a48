use lib.ListN.{length}
use Prim.Native.Nat.{◌-◌}
use Rattle.text.specs.Unfolding.{Nowhere, fold_at}
use Rattle.text.proofs.skip_unfolded.Given as goal

abbrev pub invariant-loop-i : goal.invariant-loop-i
invariant-loop-i l = Nowhere fold_at l.s l.from l.i

abbrev pub decreases-loop-i : goal.decreases-loop-i
decreases-loop-i l = length l.s - l.i
