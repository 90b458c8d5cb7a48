-- `query::Query::component_at` meets its contract: the four bytes lie inside, since i is below the count.
use Rattle.query.proofs.Records.{component_is}
use Rattle.query.proofs.Query.component_at.Goals as goal

pub returns : goal.returns
returns c =
    let sections = c.args.self.now.sections in
    let parent = c.byte_at.ensures.is in
    let name = c.byte_at-2.ensures.is in
    let range = c.byte_at-3.ensures.is in
    let flag = c.byte_at-4.ensures.is in
    component_is _ sections _ parent name range flag
