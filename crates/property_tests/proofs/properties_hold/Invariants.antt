use Rattle.nesting.specs.Components.{properties_in}
use Rattle.structure.specs.Rows.{component_by}
use mathlib.Core.Bool.{true}
use Rattle.query.proofs.Counting.{SoFar}
use Rattle.property_tests.specs.PropertyTests.{property_passes}
use Rattle.property_tests.proofs.properties_hold.Given as goal

abbrev pub invariant-loop-i : goal.invariant-loop-i
invariant-loop-i l = SoFar true (property_passes l.q.bytes.now l.q.sections l.j (properties_in (component_by l.cal.text.now l.cal.rows.now l.k).items)) l.q.sections.properties.count l.i
