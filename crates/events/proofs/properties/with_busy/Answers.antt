-- `events::properties::with_busy` meets its contract: the fields are those of the definition.
use Rattle.events.specs.ComponentProperties.{with_busy}
use mathlib.Core.Path.{refl}
use Rattle.events.proofs.properties.with_busy.Goals as goal

pub returns : goal.returns
unfolding with_busy
returns c = refl
