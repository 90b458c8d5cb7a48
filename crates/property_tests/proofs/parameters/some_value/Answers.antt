-- `property_tests::parameters::some_value` meets its contract: no value so far holds up, so those from here on decide.
use Rattle.property_tests.proofs.PropertyTests.{trying_start, trying_next, trying_found, trying_end, value_rises, value_inside}
use native.Mathlib.Omega.{arith}
use Rattle.property_tests.proofs.parameters.some_value.Goals as goal

pub loop-values-init : goal.loop-values-init
loop-values-init c = trying_start _ _ _ _ c.after-values.ensures

pub slice_bounds-quotes_off-count : goal.slice_bounds-quotes_off-count
slice_bounds-quotes_off-count c = value_rises _ _ c.loop-values.invariant c.find-e.ensures

pub slice_bounds-quotes_off-start : goal.slice_bounds-quotes_off-start
slice_bounds-quotes_off-start c = omega (arith, value_rises _ _ c.loop-values.invariant c.find-e.ensures, value_inside _ _ c.loop-values.invariant c.find-e.ensures)

pub slice_bounds-quotes_off-end : goal.slice_bounds-quotes_off-end
slice_bounds-quotes_off-end c = omega (arith, value_rises _ _ c.loop-values.invariant c.find-e.ensures, value_inside _ _ c.loop-values.invariant c.find-e.ensures)

pub returns-then-text_passes : goal.returns-then-text_passes
returns-then-text_passes c =
    let trying = c.loop-values.invariant in
    let next = c.find-e.ensures in
    let value = c.quotes_off-v.ensures in
    let tested = c.text_passes.ensures in
    let holds = c.if-text_passes.true in
    trying_found _ _ trying next value tested holds

pub returns-then-values-e : goal.returns-then-values-e
returns-then-values-e c =
    trying_end _ _
    c.loop-values.invariant
    c.find-e.ensures
    c.quotes_off-v.ensures
    c.text_passes.ensures c.if-text_passes.false c.if-values-e.true

pub loop-values-smaller : goal.loop-values-smaller
loop-values-smaller c = omega (arith, value_rises _ _ c.loop-values.invariant c.find-e.ensures)

pub loop-values-preserved : goal.loop-values-preserved
loop-values-preserved c =
    trying_next _ _
    c.loop-values.invariant
    c.find-e.ensures
    c.quotes_off-v.ensures
    c.text_passes.ensures c.if-text_passes.false c.if-values-e.false
