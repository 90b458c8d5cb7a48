-- `filter::ranges::value_in` meets its contract: no period so far touches the range, so those that are left decide.
use Rattle.calendar.proofs.Periods.{next_period_at, no_period_at}
use native.Mathlib.Omega.{arith}
use Rattle.filter.proofs.RangesLaws.{overlapping_start, overlapping_next, overlapping_found, overlapping_end}
use Rattle.filter.proofs.ranges.value_in.Goals as goal

pub loop-p-init : goal.loop-p-init
loop-p-init c = overlapping_start _ _ _

pub returns-then-overlaps : goal.returns-then-overlaps
returns-then-overlaps c =
    overlapping_found
    c.loop-p.invariant
    (next_period_at _ _ c.next_period.ensures c.in-Some.is)
    c.overlaps.ensures c.if-overlaps.true

pub loop-p-smaller : goal.loop-p-smaller
loop-p-smaller c = let h = next_period_at _ _ c.next_period.ensures c.in-Some.is in omega (arith, h.onward, h.within)

pub loop-p-preserved : goal.loop-p-preserved
loop-p-preserved c =
    overlapping_next
    c.loop-p.invariant
    (next_period_at _ _ c.next_period.ensures c.in-Some.is)
    c.overlaps.ensures c.if-overlaps.false

pub returns : goal.returns
returns c = overlapping_end c.loop-p.invariant (no_period_at c.next_period.ensures c.in_default.is)
