-- `recurrence::time_range::span_of` meets its contract: each branch is the definition's own.
use mathlib.Core.Path.{sym, ◌∙◌}
use Rattle.recurrence.specs.Candidates.{span_of}
use Rattle.recurrence.proofs.time_range.span_of.Goals as goal

pub returns-then-is_zero_length : goal.returns-then-is_zero_length
unfolding span_of
returns-then-is_zero_length c = simp (sym c.is_zero_length.ensures ∙ c.if-is_zero_length.true)

pub returns-else-is_zero_length : goal.returns-else-is_zero_length
unfolding span_of
returns-else-is_zero_length c = simp (sym c.is_zero_length.ensures ∙ c.if-is_zero_length.false, c.length_of.ensures)
