-- `events::rules::limit_by` meets its contract: each arm is one clause of the definition.
use mathlib.Core.Path.{sym, ◌∙◌}
use Rattle.events.specs.Events.{limit_by}
use Rattle.events.proofs.Events.{times_alike}
use Rattle.events.proofs.rules.limit_by.Goals as goal

pub returns-in-Forever : goal.returns-in-Forever
unfolding limit_by
returns-in-Forever c = simp c.in-Forever.is

pub returns-in-Count : goal.returns-in-Count
unfolding limit_by
returns-in-Count c = simp c.in-Count.is

pub returns-then-eq-s : goal.returns-then-eq-s
unfolding limit_by
returns-then-eq-s c = rw (c.in-Until.is, sym (times_alike c.in-Until.t c.args.s) ∙ sym c.eq.ensures, c.if-eq-s.true)

pub returns-else-eq-s : goal.returns-else-eq-s
unfolding limit_by
returns-else-eq-s c = rw (c.in-Until.is, sym (times_alike c.in-Until.t c.args.s) ∙ sym c.eq.ensures, c.if-eq-s.false)
