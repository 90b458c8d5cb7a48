-- `filter::components::some_component_named` meets its contract: no component so far has the name, so those that are left decide.
use mathlib.Core.Path.{◌∙◌}
use native.Mathlib.Omega.{arith}
use Rattle.filter.proofs.Tests.{beside_start, beside_here, beside_next, beside_found, beside_end, component_named, component_other, no_component}
use Rattle.filter.proofs.components.some_component_named.Goals as goal

pub loop-k-init : goal.loop-k-init
loop-k-init c = beside_start _ c.requires.components_at

pub is_called-requires : goal.is_called-requires
is_called-requires c =
    record {
      indexed = c.requires.indexed;
      row_of = (beside_here c.loop-k.invariant c.loop-k-test.true).row;
    }

pub returns-then-is_called : goal.returns-then-is_called
returns-then-is_called c = beside_found c.loop-k.invariant c.loop-k-test.true (component_named _ _ c.is_called.ensures c.if-is_called.true)

pub next_row-k-requires : goal.next_row-k-requires
next_row-k-requires c = (beside_here c.loop-k.invariant c.loop-k-test.true).row.room

pub loop-k-smaller : goal.loop-k-smaller
loop-k-smaller c = let h = beside_here c.loop-k.invariant c.loop-k-test.true in omega (arith, h.onward, h.within, c.next_row-k.ensures)

pub loop-k-preserved : goal.loop-k-preserved
loop-k-preserved c =
    let beside = c.loop-k.invariant in
    let inside = c.loop-k-test.true in
    let tested = c.is_called.ensures in
    let other = c.if-is_called.false in
    let next = c.next_row-k.ensures in
    beside_next beside inside next (component_other _ _ tested other)

pub returns : goal.returns
returns c = no_component _ ∙ beside_end c.loop-k.invariant c.loop-k-test.false
