-- `query::Query::range_start` meets its contract: range i lies inside, since i is below the count.
use Rattle.query.specs.Records.{range_start}
use Rattle.query.proofs.Query.range_start.Goals as goal

pub returns : goal.returns
unfolding range_start
returns c = c.number8.ensures
