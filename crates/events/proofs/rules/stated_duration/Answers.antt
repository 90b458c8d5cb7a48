-- `events::rules::stated_duration` meets its contract: the test is that of the definition.
use mathlib.Core.Path.{sym, ◌∙◌}
use Rattle.events.specs.Events.{stated_duration}
use Rattle.events.proofs.Events.{on_date}
use Rattle.events.proofs.rules.stated_duration.Goals as goal

pub returns-then-eq-d : goal.returns-then-eq-d
unfolding stated_duration
returns-then-eq-d c = rw (sym (on_date c.args.s.kind) ∙ sym c.eq.ensures, c.if-eq-d.true)

pub returns-else-eq-d : goal.returns-else-eq-d
unfolding stated_duration
returns-else-eq-d c = rw (sym (on_date c.args.s.kind) ∙ sym c.eq.ensures, c.if-eq-d.false)
