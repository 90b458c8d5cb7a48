-- `property_tests::parameters::named_value` meets its contract: a parameter of another name has no value that is asked for.
use Rattle.property_tests.proofs.PropertyTests.{named_value, other_value}
use Rattle.property_tests.proofs.parameters.named_value.Goals as goal

pub returns-then-is_named : goal.returns-then-is_named
returns-then-is_named c = named_value _ _ _ _ c.is_named.ensures c.if-is_named.true c.some_value.ensures

pub returns-else-is_named : goal.returns-else-is_named
returns-else-is_named c = other_value _ _ _ _ c.is_named.ensures c.if-is_named.false
