-- `property_tests::texts::text_passes` meets its contract: without a text any value holds up; with one, flag 2 turns the answer round.
use Rattle.property_tests.proofs.PropertyTests.{passes_none, passes_negated, passes_plain}
use Rattle.property_tests.proofs.texts.text_passes.Goals as goal

pub returns-then-n-eq0 : goal.returns-then-n-eq0
returns-then-n-eq0 c = passes_none _ _ _ _ _ c.if-n-eq0.true

pub returns-then-flag-eq2 : goal.returns-then-flag-eq2
returns-then-flag-eq2 c = passes_negated _ _ _ _ _ c.if-n-eq0.false c.collation_of.ensures c.contains-has.ensures c.if-flag-eq2.true

pub returns-else-flag-eq2 : goal.returns-else-flag-eq2
returns-else-flag-eq2 c = passes_plain _ _ _ _ _ c.if-n-eq0.false c.collation_of.ensures c.contains-has.ensures c.if-flag-eq2.false
