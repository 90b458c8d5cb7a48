-- `property::recurrence_value` meets its contract: with RANGE or TZID the line is unsupported; else its time decides.
use mathlib.Core.Path.{sym, ap, ◌∙◌}
use Rattle.property.specs.Facts.{time_reading}
use Rattle.property.specs.Properties.{unless_ranged, unless_zoned, time_fact}
use Rattle.property.proofs.Properties.{time_or_bad}
use Rattle.property.proofs.recurrence_value.Goals as goal

pub returns-then-has : goal.returns-then-has
unfolding time_reading unless_ranged
returns-then-has c = λ f. rw (sym c.has.ensures ∙ c.if-has.true)

pub returns-then-is_zoned : goal.returns-then-is_zoned
unfolding time_reading unless_ranged unless_zoned
returns-then-is_zoned c = λ f. rw (sym c.has.ensures ∙ c.if-has.false, sym c.is_zoned.ensures ∙ c.if-is_zoned.true)

pub returns : goal.returns
unfolding unless_ranged unless_zoned
returns c =
    λ f.
    rw (sym c.has.ensures ∙ c.if-has.false, sym c.is_zoned.ensures ∙ c.if-is_zoned.false)
    (time_or_bad f _ c.ok_or.ensures.value ∙ ap (time_fact f) c.time.ensures)
