use Prim.Native.Nat.{◌-◌}
use lib.ListN.{length}
use Rattle.filter.proofs.RangesLaws.{Overlapping}
use Rattle.filter.proofs.ranges.value_in.Given as goal

abbrev pub invariant-loop-p : goal.invariant-loop-p
invariant-loop-p l = Overlapping l.a l.b l.v l.at

abbrev pub decreases-loop-p : goal.decreases-loop-p
decreases-loop-p l = length l.v - l.at
