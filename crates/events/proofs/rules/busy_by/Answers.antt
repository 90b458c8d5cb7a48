-- `events::rules::busy_by` meets its contract: TRANSP that is not given is not TRANSPARENT.
use mathlib.Core.Path.{sym, ◌∙◌}
use Rattle.events.proofs.Events.{busy_said}
use Rattle.events.proofs.rules.busy_by.Goals as goal

pub returns-then-unwrap_or : goal.returns-then-unwrap_or
returns-then-unwrap_or c = (busy_said _ _).0 (sym c.unwrap_or.ensures ∙ c.if-unwrap_or.true)

pub returns-else-unwrap_or : goal.returns-else-unwrap_or
returns-else-unwrap_or c = c.busy_by_status.ensures ∙ (busy_said _ _).1 (sym c.unwrap_or.ensures ∙ c.if-unwrap_or.false)
