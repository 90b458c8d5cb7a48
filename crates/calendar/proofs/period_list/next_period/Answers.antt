-- `calendar::period_list::next_period` meets its contract: what is passed over is no period, so the periods from the place on are those asked for.
use Rattle.line.proofs.Splitting.{item_rises, item_inside}
use Rattle.calendar.proofs.Periods.{leaving_start, leaving_bad, leaving_found, leaving_end, period_onward}
use native.Mathlib.Omega.{arith}
use Rattle.calendar.proofs.period_list.next_period.Goals as goal

pub loop-at-init : goal.loop-at-init
loop-at-init c = leaving_start _ _

pub slice_bounds-read_period-count : goal.slice_bounds-read_period-count
slice_bounds-read_period-count c = omega (arith, item_rises _ _ _ _ c.find-e.ensures, item_inside 44 _ _ _ (omega (arith, c.loop-at-test.true)) c.find-e.ensures)

pub slice_bounds-read_period-start : goal.slice_bounds-read_period-start
slice_bounds-read_period-start c = omega (arith, item_rises _ _ _ _ c.find-e.ensures, item_inside 44 _ _ _ (omega (arith, c.loop-at-test.true)) c.find-e.ensures)

pub slice_bounds-read_period-end : goal.slice_bounds-read_period-end
slice_bounds-read_period-end c = omega (arith, item_rises _ _ _ _ c.find-e.ensures, item_inside 44 _ _ _ (omega (arith, c.loop-at-test.true)) c.find-e.ensures)

pub returns-in-Some : goal.returns-in-Some
returns-in-Some c =
    let leaving = c.loop-at.invariant in
    let inside = c.loop-at-test.true in
    let next = c.find-e.ensures in
    let behind = c.place_behind-next.ensures in
    let read = c.read_period.ensures in
    let period = c.in-Some.is in
    leaving_found leaving inside next behind read _ period

pub loop-at-smaller : goal.loop-at-smaller
loop-at-smaller c =
    let inside = c.loop-at-test.true in
    let next = c.find-e.ensures in
    let behind = c.place_behind-next.ensures in
    let onward = period_onward _ inside next behind in
    omega (arith, onward.0, onward.1)

pub loop-at-preserved : goal.loop-at-preserved
loop-at-preserved c =
    let leaving = c.loop-at.invariant in
    let inside = c.loop-at-test.true in
    let next = c.find-e.ensures in
    let behind = c.place_behind-next.ensures in
    let read = c.read_period.ensures in
    let no_period = c.in-None.is in
    leaving_bad leaving inside next behind read no_period

pub returns : goal.returns
returns c = leaving_end c.loop-at.invariant c.loop-at-test.false
