use Prim.Native.Nat.{◌-◌}
use Rattle.filter.specs.Ranges.{lines_in}
use Rattle.property_tests.proofs.PropertyTests.{Seeking}
use Rattle.filter.proofs.ranges.lines_in.Given as goal

abbrev pub invariant-loop-n : goal.invariant-loop-n
invariant-loop-n l = Seeking (lines_in l.c l.a l.b) l.cal.text.now l.cal.rows.now l.k l.i l.row l.stop l.end

abbrev pub decreases-loop-n : goal.decreases-loop-n
decreases-loop-n l = l.stop - l.i
