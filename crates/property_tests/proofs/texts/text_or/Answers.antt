-- `property_tests::texts::text_or` meets its contract: without a text there are no bytes; any other is looked up.
use Rattle.property_tests.proofs.PropertyTests.{text_none, text_some}
use Rattle.property_tests.proofs.texts.text_or.Goals as goal

pub returns-then-text-eq0 : goal.returns-then-text-eq0
returns-then-text-eq0 c = text_none _ _ _ c.if-text-eq0.true

pub returns : goal.returns
returns c = text_some _ _ _ c.if-text-eq0.false c.text_of.ensures
