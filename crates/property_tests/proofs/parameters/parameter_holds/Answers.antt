-- `property_tests::parameters::parameter_holds` meets its contract: the flag decides which of the two questions is asked; the record's texts are looked up first.
use Rattle.property_tests.proofs.PropertyTests.{parameter_absent, parameter_there}
use Rattle.property_tests.proofs.parameters.parameter_holds.Goals as goal

pub returns-then-flag-eq1 : goal.returns-then-flag-eq1
returns-then-flag-eq1 c = parameter_absent _ _ _ _ c.text_of-name.ensures c.if-flag-eq1.true c.has_parameter.ensures

pub returns : goal.returns
returns c = parameter_there _ _ _ _ c.text_of-name.ensures c.if-flag-eq1.false c.text_or-text.ensures c.some_named.ensures
