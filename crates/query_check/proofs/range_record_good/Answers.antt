-- `query_check::range_record_good` meets its contract: the two tests are those of the definition, on the numbers that were read.
use Rattle.time.specs.Limits.{range_good}
use Rattle.query_check.specs.WellFormed.{range_record_good}
use Rattle.query_check.proofs.range_record_good.Goals as goal

pub returns : goal.returns
unfolding range_record_good range_good
returns c = rw (c.range_start-start.ensures, c.range_end-end.ensures)
