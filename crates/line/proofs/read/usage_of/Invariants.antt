use Rattle.line.proofs.ReadingParameters.{Used}
use lib.ListN.{length}
use Prim.Native.Nat.{◌-◌}
use Rattle.line.proofs.read.usage_of.Given as goal

abbrev pub invariant-loop-at : goal.invariant-loop-at
invariant-loop-at l = Used l.name l.h l.u l.at

abbrev pub decreases-loop-at : goal.decreases-loop-at
decreases-loop-at l = length l.h - l.at
