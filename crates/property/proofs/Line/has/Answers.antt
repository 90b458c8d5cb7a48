-- `property::Line::has` meets its contract: a line without parameters has none of the name.
use Rattle.property.proofs.Properties.{plain_without}
use Rattle.property.proofs.Line.has.Goals as goal

pub returns-then-self : goal.returns-then-self
returns-then-self c = plain_without _ (c.args.self.no_parameters c.if-self.true) _
