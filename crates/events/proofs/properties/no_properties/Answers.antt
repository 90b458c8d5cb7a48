-- `events::properties::no_properties` meets its contract: the fields are those of the definition.
use Rattle.events.specs.ComponentProperties.{no_properties}
use mathlib.Core.Path.{refl}
use Rattle.events.proofs.properties.no_properties.Goals as goal

pub returns : goal.returns
unfolding no_properties
returns c = refl
