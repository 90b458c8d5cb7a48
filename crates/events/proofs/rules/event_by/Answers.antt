-- `events::rules::event_by` meets its contract: where a part is missing there is no event.
use mathlib.Core.Path.{sym, ◌∙◌}
use Rattle.events.specs.Events.{event_by, event_from, event_with}
use Rattle.events.proofs.rules.event_by.Goals as goal

pub returns-then-g : goal.returns-then-g
unfolding event_by event_from event_with
returns-then-g c = simp c.if-g.true

pub returns-in_err-s : goal.returns-in_err-s
unfolding event_by event_from event_with
returns-in_err-s c = simp (c.from_residual.ensures, c.in_err-s.was, c.if-g.false)

pub returns-in_err-ending : goal.returns-in_err-ending
unfolding event_by event_from event_with
returns-in_err-ending c = simp (c.from_residual-in_err-ending.ensures, c.if-g.false, c.in_ok-s.was, sym c.ending_by.ensures ∙ c.in_err-ending.was)

pub returns-in_err-repeat : goal.returns-in_err-repeat
unfolding event_by event_from event_with
returns-in_err-repeat c = simp (c.from_residual-in_err-repeat.ensures, c.if-g.false, c.in_ok-s.was, sym c.ending_by.ensures ∙ c.in_ok-ending.was, sym c.repeat_by.ensures ∙ c.in_err-repeat.was)

pub returns : goal.returns
unfolding event_by event_from event_with
returns c = simp (c.event_made.ensures, c.if-g.false, c.in_ok-s.was, sym c.ending_by.ensures ∙ c.in_ok-ending.was, sym c.repeat_by.ensures ∙ c.in_ok-repeat.was)
