-- `events::properties::with_lasts` meets its contract: the fields are those of the clause for this property value.
use Rattle.events.specs.ComponentProperties.{with_property}
use Rattle.events.proofs.properties.with_lasts.Goals as goal

pub returns : goal.returns
unfolding with_property
returns c = simp (c.with_span.ensures, c.is_some.ensures)
