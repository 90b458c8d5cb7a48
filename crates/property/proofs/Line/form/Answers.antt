-- `property::Line::form` meets its contract: a line without parameters asks for a DATE-TIME.
use Rattle.property.proofs.Properties.{plain_form}
use Rattle.property.proofs.Line.form.Goals as goal

pub returns-then-self : goal.returns-then-self
returns-then-self c = plain_form _ (c.args.self.no_parameters c.if-self.true)
