-- `events::rules::repeat_by` meets its contract: each arm is one clause of the definition.
use Rattle.events.specs.Events.{repeat_by}
use Rattle.events.proofs.rules.repeat_by.Goals as goal

pub returns-in-None : goal.returns-in-None
unfolding repeat_by
returns-in-None c = simp c.in-None.is

pub returns-in-Some : goal.returns-in-Some
unfolding repeat_by
returns-in-Some c = simp (c.limit_by.ensures, c.in-Some.is)
