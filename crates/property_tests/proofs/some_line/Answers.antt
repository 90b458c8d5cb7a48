-- `property_tests::some_line` meets its contract: no line so far holds, so the lines that are left decide.
use Rattle.property_tests.proofs.PropertyTests.{holding_lines}
use Rattle.structure.proofs.ItemsLaws.{item_asked, property_less, inner_less}
use Rattle.property_tests.proofs.PropertyTests.{row_ends, seeking_start, seeking_line, seeking_next, seeking_found, seeking_inner, seeking_end}
use mathlib.Core.Path.{refl}
use native.Mathlib.Omega.{arith}
use Rattle.property_tests.proofs.some_line.Goals as goal

pub first_line-i-requires : goal.first_line-i-requires
first_line-i-requires c = c.requires.row_of.room

pub overflow_add-row : goal.overflow_add-row
overflow_add-row c = omega (arith, c.requires.row_of.few)

pub line_behind-stop-requires : goal.line_behind-stop-requires
line_behind-stop-requires c = c.requires.row_of.room

pub overflow_sub-stop : goal.overflow_sub-stop
overflow_sub-stop c = row_ends c.requires.row_of c.line_behind-stop.ensures

pub next_row-end-requires : goal.next_row-end-requires
next_row-end-requires c = c.requires.row_of.room

pub loop-i-init : goal.loop-i-init
loop-i-init c =
    let first = c.first_line-i.ensures in
    let behind = c.line_behind-stop.ensures in
    let next = c.next_row-end.ensures in
    seeking_start _ c.requires.row_of first behind next

pub item_at-requires : goal.item_at-requires
item_at-requires c =
    let held = item_asked c.loop-i.invariant.left in
    record {
      m_bound = held.0;
      i_bound = held.1;
    }

pub line_holds-requires : goal.line_holds-requires
line_holds-requires c =
    let known = seeking_line c.loop-i.invariant c.item_at.ensures c.in-Property.is c.requires.indexed in
    record {
      q_value = c.requires.q_value;
      name_value = c.requires.name_value;
      text_value = c.requires.text_value;
      entry = known;
    }

pub returns-then-line_holds : goal.returns-then-line_holds
returns-then-line_holds c =
    seeking_found (holding_lines _ _ _ _) c.loop-i.invariant c.item_at.ensures c.in-Property.is refl c.line_holds.ensures c.if-line_holds.true

pub overflow_add-i : goal.overflow_add-i
overflow_add-i c = omega (arith, (item_asked c.loop-i.invariant.left).1)

pub loop-i-smaller-in-Property : goal.loop-i-smaller-in-Property
loop-i-smaller-in-Property c =
    property_less c.loop-i.invariant.left c.item_at.ensures c.in-Property.is

pub loop-i-preserved-in-Property : goal.loop-i-preserved-in-Property
loop-i-preserved-in-Property c =
    seeking_next (holding_lines _ _ _ _) c.loop-i.invariant c.item_at.ensures c.in-Property.is refl c.line_holds.ensures c.if-line_holds.false

pub loop-i-smaller : goal.loop-i-smaller
loop-i-smaller c = inner_less c.loop-i.invariant.left c.item_at.ensures c.in-Inner.is

pub loop-i-preserved : goal.loop-i-preserved
loop-i-preserved c = seeking_inner (holding_lines _ _ _ _) c.loop-i.invariant c.item_at.ensures c.in-Inner.is

pub returns-in-Done : goal.returns-in-Done
returns-in-Done c = seeking_end (holding_lines _ _ _ _) c.loop-i.invariant c.item_at.ensures c.in-Done.is
