-- `query_check::records_good` meets its contract: the four sections are tested each by itself.
use Rattle.query_check.specs.WellFormed.{records_good}
use Rattle.query_check.proofs.records_good.Goals as goal

pub returns : goal.returns
unfolding records_good
returns c = rw (c.ranges_good.ensures, c.components_good.ensures, c.properties_good.ensures, c.parameters_good.ensures)
