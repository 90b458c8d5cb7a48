-- `line::read::usage_of` meets its contract: with what was counted before a semicolon, the parameters from it on give the whole count.
use Rattle.line.proofs.ReadingParameters.{next_rises, next_inside, used_start, used_next, used_end}
use native.Mathlib.Omega.{arith}
use Rattle.line.proofs.read.usage_of.Goals as goal

pub loop-at-init : goal.loop-at-init
loop-at-init c = used_start _ _ _ c.find-at.ensures

pub slice_bounds-counted-count : goal.slice_bounds-counted-count
slice_bounds-counted-count c = omega (arith, next_rises _ _ _ c.find-e.ensures, next_inside _ _ _ c.loop-at-test.true c.find-e.ensures)

pub slice_bounds-counted-start : goal.slice_bounds-counted-start
slice_bounds-counted-start c = omega (arith, next_rises _ _ _ c.find-e.ensures, next_inside _ _ _ c.loop-at-test.true c.find-e.ensures)

pub slice_bounds-counted-end : goal.slice_bounds-counted-end
slice_bounds-counted-end c = omega (arith, next_rises _ _ _ c.find-e.ensures, next_inside _ _ _ c.loop-at-test.true c.find-e.ensures)

pub loop-at-smaller : goal.loop-at-smaller
loop-at-smaller c = omega (arith, next_rises _ _ _ c.find-e.ensures, next_inside _ _ _ c.loop-at-test.true c.find-e.ensures)

pub loop-at-preserved : goal.loop-at-preserved
loop-at-preserved c = used_next _ _ c.loop-at-test.true c.find-e.ensures c.counted-u.ensures c.loop-at.invariant

pub returns : goal.returns
returns c = used_end _ c.loop-at-test.false c.head-h.ensures c.loop-at.invariant
