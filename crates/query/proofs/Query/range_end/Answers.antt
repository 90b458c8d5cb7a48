-- `query::Query::range_end` meets its contract: range i lies inside, since i is below the count.
use Rattle.query.specs.Records.{range_end}
use Rattle.query.proofs.Query.range_end.Goals as goal

pub returns : goal.returns
unfolding range_end
returns c = c.number8.ensures
