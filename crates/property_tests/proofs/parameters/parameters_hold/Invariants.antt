use Rattle.property_tests.specs.PropertyTests.{parameter_passes}
use Rattle.line.specs.Reading.{line_of}
use mathlib.Core.Bool.{true}
use Rattle.query.proofs.Counting.{SoFar}
use Rattle.property_tests.proofs.parameters.parameters_hold.Given as goal

abbrev pub invariant-loop-k : goal.invariant-loop-k
invariant-loop-k l = SoFar true (parameter_passes l.q.bytes.now l.q.sections l.i (line_of l.line)) l.q.sections.parameters.count l.k
