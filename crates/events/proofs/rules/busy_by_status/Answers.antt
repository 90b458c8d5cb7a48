-- `events::rules::busy_by_status` meets its contract: each arm is one clause of the definition.
use Rattle.events.specs.Events.{busy_by_status}
use Rattle.events.proofs.rules.busy_by_status.Goals as goal

pub returns-in-None : goal.returns-in-None
unfolding busy_by_status
returns-in-None c = simp c.in-None.is

pub returns-in-Cancelled : goal.returns-in-Cancelled
unfolding busy_by_status
returns-in-Cancelled c = simp (c.in-Cancelled.is, c.in-Some.is)

pub returns-in-Tentative : goal.returns-in-Tentative
unfolding busy_by_status
returns-in-Tentative c = simp (c.in-Tentative.is, c.in-Some.is)

pub returns-in-Other : goal.returns-in-Other
unfolding busy_by_status
returns-in-Other c = simp (c.in-Other.is, c.in-Some.is)
