-- `property::time_value` meets its contract: with TZID the line is unsupported; else its time is what the callees answer.
use mathlib.Core.Path.{sym, ap, ◌∙◌}
use Rattle.property.specs.Facts.{time_reading}
use Rattle.property.specs.Properties.{time_in, time_fact, unless_zoned}
use Rattle.property.proofs.Properties.{time_or_bad}
use Rattle.property.proofs.time_value.Goals as goal

pub returns-then-is_zoned : goal.returns-then-is_zoned
unfolding time_reading unless_zoned
returns-then-is_zoned c = λ f. rw (sym c.is_zoned.ensures ∙ c.if-is_zoned.true)

pub returns : goal.returns
unfolding unless_zoned
returns c =
    λ f.
    rw (sym c.is_zoned.ensures ∙ c.if-is_zoned.false)
    (time_or_bad f _ c.ok_or.ensures.value ∙ ap (time_fact f) (c.time_in.ensures ∙ ap (time_in c.args.scope) c.time.ensures))
