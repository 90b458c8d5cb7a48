use Prim.Native.Nat.{◌-◌}
use lib.ListN.{length}
use Rattle.property_tests.proofs.PropertyTests.{Looking}
use Rattle.property_tests.proofs.parameters.some_named.Given as goal

abbrev pub invariant-loop-at : goal.invariant-loop-at
invariant-loop-at l = Looking l.r l.text l.name l.h l.at

abbrev pub decreases-loop-at : goal.decreases-loop-at
decreases-loop-at l = length l.h - l.at
