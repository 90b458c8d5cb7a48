use Rattle.line.proofs.ReadingParameters.{Sought}
use lib.ListN.{length}
use Prim.Native.Nat.{◌-◌}
use Rattle.line.proofs.read.first_value.Given as goal

abbrev pub invariant-loop-at : goal.invariant-loop-at
invariant-loop-at l = Sought l.name l.h l.at

abbrev pub decreases-loop-at : goal.decreases-loop-at
decreases-loop-at l = length l.h - l.at
