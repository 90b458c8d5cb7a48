-- `property::property_of` meets its contract: each arm is the component's own answer.
use Rattle.property.specs.Properties.{property_of}
use Rattle.property.proofs.property_of.Goals as goal

pub returns-in-Other : goal.returns-in-Other
unfolding property_of
returns-in-Other c = rw c.in-Other.is
