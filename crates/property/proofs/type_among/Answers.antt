-- `property::type_among` meets its contract. FBTYPE decides: twice or as a list is bad, else it is the type that its word names.
use mathlib.Core.Path.{sym, ap, ◌∙◌}
use Rattle.periods.specs.declared.BusyType.{BusyType}
use Rattle.property.specs.Facts.{of, periods, reading_of}
use Rattle.property.specs.Properties.{type_value}
use Rattle.property.proofs.type_among.Goals as goal

pub returns-then-type_is_bad : goal.returns-then-type_is_bad
unfolding type_value reading_of
returns-then-type_is_bad c = rw (sym c.type_is_bad.ensures ∙ c.if-type_is_bad.true)

pub returns : goal.returns
unfolding type_value reading_of
returns c = rw (sym c.type_is_bad.ensures ∙ c.if-type_is_bad.false) (ap (λ (y : BusyType). of (periods y)) c.busy_of.ensures)
