-- `events::rules::event_made` meets its contract: each field is that of the definition.
use Rattle.events.specs.Events.{event_made}
use Rattle.events.proofs.rules.event_made.Goals as goal

pub returns : goal.returns
unfolding event_made
returns c = simp (c.busy_by.ensures, c.interval_by.ensures, c.days_by.ensures)
