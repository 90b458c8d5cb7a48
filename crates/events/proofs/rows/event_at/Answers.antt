-- `events::rows::event_at` meets its contract: each field is that of the definition.
use Rattle.events.specs.EntryRows.{event_at}
use Rattle.events.proofs.rows.event_at.Goals as goal

pub returns : goal.returns
unfolding event_at
returns c =
    simp (
      c.kind_of.ensures,
      c.from.ensures,
      c.from-2.ensures,
      c.busy_of.ensures,
    )
