-- `recurrence::time_range::ends_after` meets its contract: each branch is the definition's own test.
use mathlib.Core.Path.{sym, ◌∙◌}
use Rattle.recurrence.specs.TimeRange.{ends_after}
use Rattle.recurrence.proofs.Instances.{ltb_clock, leb_clock}
use Rattle.recurrence.proofs.time_range.ends_after.Goals as goal

pub returns-then-is_zero_length : goal.returns-then-is_zero_length
unfolding ends_after
returns-then-is_zero_length c = simp (sym c.is_zero_length.ensures ∙ c.if-is_zero_length.true, c.start_of.ensures, leb_clock)

pub returns-else-is_zero_length : goal.returns-else-is_zero_length
unfolding ends_after
returns-else-is_zero_length c = simp (sym c.is_zero_length.ensures ∙ c.if-is_zero_length.false, c.end_of.ensures, ltb_clock)
