-- `line::read::first_value` meets its contract: no parameter before the semicolon has the name, so those from it on decide.
use Rattle.line.proofs.ReadingParameters.{next_rises, next_inside, sought_start, sought_next, sought_found, sought_end}
use mathlib.Core.Path.{sym, ◌∙◌}
use native.Mathlib.Omega.{arith}
use Rattle.line.proofs.read.first_value.Goals as goal

pub loop-at-init : goal.loop-at-init
loop-at-init c = sought_start _ _ _ c.find-at.ensures

pub slice_bounds-p-count : goal.slice_bounds-p-count
slice_bounds-p-count c = omega (arith, next_rises _ _ _ c.find-e.ensures, next_inside _ _ _ c.loop-at-test.true c.find-e.ensures)

pub slice_bounds-p-start : goal.slice_bounds-p-start
slice_bounds-p-start c = omega (arith, next_rises _ _ _ c.find-e.ensures, next_inside _ _ _ c.loop-at-test.true c.find-e.ensures)

pub slice_bounds-p-end : goal.slice_bounds-p-end
slice_bounds-p-end c = omega (arith, next_rises _ _ _ c.find-e.ensures, next_inside _ _ _ c.loop-at-test.true c.find-e.ensures)

pub returns-then-is_named : goal.returns-then-is_named
returns-then-is_named c =
    let head = c.head-h.ensures in
    let sought = c.loop-at.invariant in
    let inside = c.loop-at-test.true in
    let next = c.find-e.ensures in
    let named = sym c.is_named.ensures ∙ c.if-is_named.true in
    c.parameter_value.ensures ∙ sought_found _ _ inside next head named sought

pub loop-at-smaller : goal.loop-at-smaller
loop-at-smaller c =
    let inside = c.loop-at-test.true in
    let next = c.find-e.ensures in
    omega (arith, next_rises _ _ _ next, next_inside _ _ _ inside next)

pub loop-at-preserved : goal.loop-at-preserved
loop-at-preserved c =
    let sought = c.loop-at.invariant in
    let inside = c.loop-at-test.true in
    let next = c.find-e.ensures in
    let unnamed = sym c.is_named.ensures ∙ c.if-is_named.false in
    sought_next _ inside next unnamed sought

pub returns : goal.returns
returns c = sought_end _ c.loop-at-test.false c.head-h.ensures c.loop-at.invariant
