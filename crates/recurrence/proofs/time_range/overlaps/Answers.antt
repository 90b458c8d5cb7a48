-- `recurrence::time_range::overlaps` meets its contract: each branch is the definition's own test.
use borrow.Author.Tests.{eq-eqb, ne_eqb}
use Rattle.recurrence.specs.TimeRange.{overlaps}
use Rattle.recurrence.proofs.time_range.overlaps.Goals as goal

pub returns-then-s-t : goal.returns-then-s-t
unfolding overlaps
returns-then-s-t c = simp (eq-eqb _ _ c.if-s-t.true)

pub returns-else-s-t : goal.returns-else-s-t
unfolding overlaps
returns-else-s-t c = simp (ne_eqb _ _ c.if-s-t.false)
