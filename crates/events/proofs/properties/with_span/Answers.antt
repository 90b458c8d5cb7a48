-- `events::properties::with_span` meets its contract: the fields are those of the definition.
use Rattle.events.specs.ComponentProperties.{with_span}
use mathlib.Core.Path.{refl}
use Rattle.events.proofs.properties.with_span.Goals as goal

pub returns : goal.returns
unfolding with_span
returns c = refl
