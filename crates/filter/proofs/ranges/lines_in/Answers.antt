-- `filter::ranges::lines_in` meets its contract: no line so far touches the range, so the lines that are left decide.
use Rattle.structure.proofs.ItemsLaws.{item_asked, property_less, inner_less}
use Rattle.property_tests.proofs.PropertyTests.{row_ends, seeking_start, seeking_line, seeking_next, seeking_found, seeking_inner, seeking_end}
use Rattle.filter.proofs.RangesLaws.{period_lines_holds}
use Rattle.index.proofs.Index.{entry_here, entry_name}
use native.Mathlib.Omega.{arith}
use Rattle.filter.proofs.ranges.lines_in.Goals as goal

pub first_line-i-requires : goal.first_line-i-requires
first_line-i-requires c = c.requires.row_of.room

pub overflow_add-row : goal.overflow_add-row
overflow_add-row c = omega (arith, c.requires.row_of.few)

pub line_behind-stop-requires : goal.line_behind-stop-requires
line_behind-stop-requires c = c.requires.row_of.room

pub overflow_sub-stop : goal.overflow_sub-stop
overflow_sub-stop c = row_ends c.requires.row_of c.line_behind-stop.ensures

pub next_row-end-requires : goal.next_row-end-requires
next_row-end-requires c = c.requires.row_of.room

pub loop-n-init : goal.loop-n-init
loop-n-init c = seeking_start _ c.requires.row_of c.first_line-i.ensures c.line_behind-stop.ensures c.next_row-end.ensures

pub item_at-requires : goal.item_at-requires
item_at-requires c =
    let held = item_asked c.loop-n.invariant.left in
    record {
      m_bound = held.0;
      i_bound = held.1;
    }

pub name_length-n-requires : goal.name_length-n-requires
name_length-n-requires c = entry_here (seeking_line c.loop-n.invariant c.item_at.ensures c.in-Property.is c.requires.indexed)

pub line_at-requires : goal.line_at-requires
line_at-requires c = (seeking_line c.loop-n.invariant c.item_at.ensures c.in-Property.is c.requires.indexed)

pub line_in-requires : goal.line_in-requires
line_in-requires c = entry_name (seeking_line c.loop-n.invariant c.item_at.ensures c.in-Property.is c.requires.indexed) c.name_length-n.ensures c.line_at.ensures

pub returns-then-line_in : goal.returns-then-line_in
returns-then-line_in c =
    let property = c.in-Property.is in
    seeking_found (period_lines_holds _ _ _) c.loop-n.invariant c.item_at.ensures property c.line_at.ensures c.line_in.ensures c.if-line_in.true

pub overflow_add-i : goal.overflow_add-i
overflow_add-i c = omega (arith, (item_asked c.loop-n.invariant.left).1)

pub loop-n-smaller-in-Property : goal.loop-n-smaller-in-Property
loop-n-smaller-in-Property c =
    property_less c.loop-n.invariant.left c.item_at.ensures c.in-Property.is

pub loop-n-preserved-in-Property : goal.loop-n-preserved-in-Property
loop-n-preserved-in-Property c =
    let property = c.in-Property.is in
    seeking_next (period_lines_holds _ _ _) c.loop-n.invariant c.item_at.ensures property c.line_at.ensures c.line_in.ensures c.if-line_in.false

pub loop-n-smaller : goal.loop-n-smaller
loop-n-smaller c = inner_less c.loop-n.invariant.left c.item_at.ensures c.in-Inner.is

pub loop-n-preserved : goal.loop-n-preserved
loop-n-preserved c = seeking_inner (period_lines_holds _ _ _) c.loop-n.invariant c.item_at.ensures c.in-Inner.is

pub returns-in-Done : goal.returns-in-Done
returns-in-Done c = seeking_end (period_lines_holds _ _ _) c.loop-n.invariant c.item_at.ensures c.in-Done.is
