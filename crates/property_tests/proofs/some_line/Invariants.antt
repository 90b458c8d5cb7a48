use Rattle.property_tests.specs.PropertyTests.{some_line}
use Rattle.property_tests.proofs.PropertyTests.{Seeking}
use Prim.Native.Nat.{◌-◌}
use Rattle.property_tests.proofs.some_line.Given as goal

abbrev pub invariant-loop-i : goal.invariant-loop-i
invariant-loop-i l = Seeking (some_line l.q.bytes.now l.q.sections l.j l.r) l.cal.text.now l.cal.rows.now l.k l.i l.row l.stop l.end

abbrev pub decreases-loop-i : goal.decreases-loop-i
decreases-loop-i l = l.stop - l.i
