-- `query_check::range_misplaced` meets its contract: the two sections are searched each by itself.
use Rattle.query_check.specs.WellFormed.{range_misplaced}
use Rattle.query_check.proofs.range_misplaced.Goals as goal

pub returns : goal.returns
unfolding range_misplaced
returns c = rw (c.components_misplaced.ensures, c.properties_misplaced.ensures)
