-- `query_check::parameter_good` meets its contract: the tests are those of the definition.
use Rattle.query_check.specs.WellFormed.{parameter_good}
use Rattle.query_check.proofs.parameter_good.Goals as goal

pub returns : goal.returns
unfolding parameter_good
returns c = rw (c.name_good.ensures, c.flag_good.ensures)
