-- `property::exceptions_value` meets its contract: with TZID the line is unsupported; else its form decides.
use mathlib.Core.Path.{sym, ap, ◌∙◌}
use Rattle.property.specs.Facts.{reading_of}
use Rattle.property.specs.Properties.{value_as, unless_zoned, exceptions_by}
use Rattle.property.proofs.exceptions_value.Goals as goal

pub returns-then-is_zoned : goal.returns-then-is_zoned
unfolding value_as unless_zoned reading_of
returns-then-is_zoned c = λ k s. rw (sym c.is_zoned.ensures ∙ c.if-is_zoned.true)

pub returns : goal.returns
unfolding value_as unless_zoned
returns c =
    let zoned = sym c.is_zoned.ensures ∙ c.if-is_zoned.false in
    λ k s. rw zoned (c.exceptions_by.ensures ∙ ap exceptions_by c.form.ensures)
