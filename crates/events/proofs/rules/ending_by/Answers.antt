-- `events::rules::ending_by` meets its contract: each arm is one clause of the definition.
use Rattle.events.specs.Events.{ending_by}
use Rattle.events.proofs.rules.ending_by.Goals as goal

pub returns-in-None-lasts : goal.returns-in-None-lasts
unfolding ending_by
returns-in-None-lasts c = simp (c.in-None-lasts.is, c.in-None.is)

pub returns-in-Some-lasts : goal.returns-in-Some-lasts
unfolding ending_by
returns-in-Some-lasts c = simp (c.stated_duration.ensures, c.in-Some-lasts.is, c.in-None.is)

pub returns-in-None-lasts-2 : goal.returns-in-None-lasts-2
unfolding ending_by
returns-in-None-lasts-2 c = simp (c.stated_end.ensures, c.in-None-lasts-2.is, c.in-Some.is)

pub returns-in-Some-lasts-2 : goal.returns-in-Some-lasts-2
unfolding ending_by
returns-in-Some-lasts-2 c = simp (c.in-Some-lasts-2.is, c.in-Some.is)
