-- `events::rules::stated_end` meets its contract: the test is that of the definition.
use mathlib.Core.Path.{sym, ◌∙◌}
use Rattle.events.specs.Events.{stated_end}
use Rattle.events.proofs.Events.{times_alike}
use Rattle.events.proofs.rules.stated_end.Goals as goal

pub returns-then-eq-s : goal.returns-then-eq-s
unfolding stated_end
returns-then-eq-s c = rw (sym (times_alike c.args.e c.args.s) ∙ sym c.eq.ensures, c.if-eq-s.true)

pub returns-else-eq-s : goal.returns-else-eq-s
unfolding stated_end
returns-else-eq-s c = rw (sym (times_alike c.args.e c.args.s) ∙ sym c.eq.ensures, c.if-eq-s.false)
