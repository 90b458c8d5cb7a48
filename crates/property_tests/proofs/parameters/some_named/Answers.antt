-- `property_tests::parameters::some_named` meets its contract: no value of a parameter before the semicolon holds up, so the parameters from it on decide.
use Rattle.line.proofs.ReadingParameters.{next_rises, next_inside}
use Rattle.property_tests.proofs.PropertyTests.{looking_start, looking_next, looking_found, looking_end}
use native.Mathlib.Omega.{arith}
use Rattle.property_tests.proofs.parameters.some_named.Goals as goal

pub loop-at-init : goal.loop-at-init
loop-at-init c = looking_start _ _ _ _ _ c.find-at.ensures

pub slice_bounds-named_value-count : goal.slice_bounds-named_value-count
slice_bounds-named_value-count c = omega (arith, next_rises _ _ _ c.find-e.ensures, next_inside _ _ _ c.loop-at-test.true c.find-e.ensures)

pub slice_bounds-named_value-start : goal.slice_bounds-named_value-start
slice_bounds-named_value-start c = omega (arith, next_rises _ _ _ c.find-e.ensures, next_inside _ _ _ c.loop-at-test.true c.find-e.ensures)

pub slice_bounds-named_value-end : goal.slice_bounds-named_value-end
slice_bounds-named_value-end c = omega (arith, next_rises _ _ _ c.find-e.ensures, next_inside _ _ _ c.loop-at-test.true c.find-e.ensures)

pub returns-then-named_value : goal.returns-then-named_value
returns-then-named_value c =
    looking_found _ _
    c.loop-at.invariant
    c.loop-at-test.true
    c.find-e.ensures
    c.named_value.ensures _
    c.head-h.ensures c.if-named_value.true

pub loop-at-smaller : goal.loop-at-smaller
loop-at-smaller c =
    let inside = c.loop-at-test.true in
    let next = c.find-e.ensures in
    omega (arith, next_rises _ _ _ next, next_inside _ _ _ inside next)

pub loop-at-preserved : goal.loop-at-preserved
loop-at-preserved c =
    let looking = c.loop-at.invariant in
    let inside = c.loop-at-test.true in
    let next = c.find-e.ensures in
    let tested = c.named_value.ensures in
    let fails = c.if-named_value.false in
    looking_next _ _ looking inside next tested fails

pub returns : goal.returns
returns c = looking_end _ _ c.loop-at.invariant _ c.loop-at-test.false c.head-h.ensures
