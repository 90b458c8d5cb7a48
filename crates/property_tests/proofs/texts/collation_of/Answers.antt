-- `property_tests::texts::collation_of` meets its contract: 0 is the first clause, any other number the second.
use Rattle.property_tests.proofs.PropertyTests.{collation_octet, collation_casemap}
use Rattle.property_tests.proofs.texts.collation_of.Goals as goal

pub returns-then-n-eq0 : goal.returns-then-n-eq0
returns-then-n-eq0 c = collation_octet _ c.if-n-eq0.true

pub returns-else-n-eq0 : goal.returns-else-n-eq0
returns-else-n-eq0 c = collation_casemap _ c.if-n-eq0.false
