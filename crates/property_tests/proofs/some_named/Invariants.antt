use Rattle.property_tests.specs.PropertyTests.{some_named}
use Rattle.property_tests.proofs.PropertyTests.{Seeking}
use Prim.Native.Nat.{◌-◌}
use Rattle.property_tests.proofs.some_named.Given as goal

abbrev pub invariant-loop-i : goal.invariant-loop-i
invariant-loop-i l = Seeking (some_named l.name) l.cal.text.now l.cal.rows.now l.k l.i l.row l.stop l.end

abbrev pub decreases-loop-i : goal.decreases-loop-i
decreases-loop-i l = l.stop - l.i
