-- `query::Query::property_at` meets its contract: the six bytes lie inside, since i is below the count.
use Rattle.query.proofs.Records.{property_is}
use Rattle.query.proofs.Query.property_at.Goals as goal

pub returns : goal.returns
returns c =
    let sections = c.args.self.now.sections in
    let component = c.byte_at.ensures.is in
    let name = c.byte_at-2.ensures.is in
    let range = c.byte_at-3.ensures.is in
    let text = c.byte_at-4.ensures.is in
    let collation = c.byte_at-5.ensures.is in
    let flag = c.byte_at-6.ensures.is in
    property_is _ sections _ component name range text collation flag
