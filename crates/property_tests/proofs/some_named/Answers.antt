-- `property_tests::some_named` meets its contract: no line so far has the name, so the lines that are left decide.
use Rattle.property_tests.proofs.PropertyTests.{named_lines, named_line}
use Rattle.structure.proofs.ItemsLaws.{item_asked, property_less, inner_less}
use Rattle.property_tests.proofs.PropertyTests.{row_ends, seeking_start, seeking_line, seeking_next, seeking_found, seeking_inner, seeking_end}
use mathlib.Core.Path.{refl}
use native.Mathlib.Omega.{arith}
use Rattle.property_tests.proofs.some_named.Goals as goal

pub first_line-i-requires : goal.first_line-i-requires
first_line-i-requires c = c.requires.row_of.room

pub overflow_add-row : goal.overflow_add-row
overflow_add-row c = omega (arith, c.requires.row_of.few)

pub line_behind-stop-requires : goal.line_behind-stop-requires
line_behind-stop-requires c = c.requires.row_of.room

pub overflow_sub-stop : goal.overflow_sub-stop
overflow_sub-stop c = row_ends c.requires.row_of c.line_behind-stop.ensures

pub next_row-end-requires : goal.next_row-end-requires
next_row-end-requires c = c.requires.row_of.room

pub loop-i-init : goal.loop-i-init
loop-i-init c = seeking_start _ c.requires.row_of c.first_line-i.ensures c.line_behind-stop.ensures c.next_row-end.ensures

pub item_at-requires : goal.item_at-requires
item_at-requires c =
    let held = item_asked c.loop-i.invariant.left in
    record {
      m_bound = held.0;
      i_bound = held.1;
    }

pub is_called-requires : goal.is_called-requires
is_called-requires c =
    seeking_line c.loop-i.invariant c.item_at.ensures c.in-Property.is c.requires.indexed

pub returns-then-is_called : goal.returns-then-is_called
returns-then-is_called c =
    seeking_found (named_lines _) c.loop-i.invariant c.item_at.ensures c.in-Property.is refl (named_line _ _ c.is_called.ensures) c.if-is_called.true

pub overflow_add-i : goal.overflow_add-i
overflow_add-i c = omega (arith, (item_asked c.loop-i.invariant.left).1)

pub loop-i-smaller-in-Property : goal.loop-i-smaller-in-Property
loop-i-smaller-in-Property c =
    property_less c.loop-i.invariant.left c.item_at.ensures c.in-Property.is

pub loop-i-preserved-in-Property : goal.loop-i-preserved-in-Property
loop-i-preserved-in-Property c =
    seeking_next (named_lines _) c.loop-i.invariant c.item_at.ensures c.in-Property.is refl (named_line _ _ c.is_called.ensures) c.if-is_called.false

pub loop-i-smaller : goal.loop-i-smaller
loop-i-smaller c = inner_less c.loop-i.invariant.left c.item_at.ensures c.in-Inner.is

pub loop-i-preserved : goal.loop-i-preserved
loop-i-preserved c = seeking_inner (named_lines _) c.loop-i.invariant c.item_at.ensures c.in-Inner.is

pub returns-in-Done : goal.returns-in-Done
returns-in-Done c = seeking_end (named_lines _) c.loop-i.invariant c.item_at.ensures c.in-Done.is
