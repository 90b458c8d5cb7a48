use Rattle.property_tests.proofs.PropertyTests.{Trying}
use Prim.Native.Nat.{◌-◌, ◌+◌}
use lib.ListN.{length}
use Rattle.property_tests.proofs.parameters.some_value.Given as goal

abbrev pub invariant-loop-values : goal.invariant-loop-values
invariant-loop-values l = Trying l.r l.text l.p l.values l.from

abbrev pub decreases-loop-values : goal.decreases-loop-values
decreases-loop-values l = length l.values + 1 - l.from
