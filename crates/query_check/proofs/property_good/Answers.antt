-- `query_check::property_good` meets its contract: the tests are those of the definition.
use Rattle.query_check.specs.WellFormed.{property_good}
use Rattle.query_check.proofs.property_good.Goals as goal

pub returns : goal.returns
unfolding property_good
returns c = rw (c.name_good.ensures, c.has_parameter_record.ensures, c.flag_good.ensures)
