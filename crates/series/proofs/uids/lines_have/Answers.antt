-- `series::uids::lines_have` meets its contract: the lines that are left decide.
use Rattle.structure.proofs.ItemsLaws.{item_asked, property_less, inner_less}
use Rattle.series.proofs.UidLaws.{asking_start, asked_entry, asked_found, asked_more, asked_inner, asked_none}
use native.Mathlib.Omega.{arith}
use Rattle.series.proofs.uids.lines_have.Goals as goal

pub line_behind-stop-requires : goal.line_behind-stop-requires
line_behind-stop-requires c = c.requires.row_of.room

pub overflow_sub-stop : goal.overflow_sub-stop
overflow_sub-stop c = omega (arith, c.line_behind-stop.ensures, c.requires.row_of.end)

pub next_row-last-requires : goal.next_row-last-requires
next_row-last-requires c = c.requires.row_of.room

pub first_line-i-requires : goal.first_line-i-requires
first_line-i-requires c = c.requires.row_of.room

pub overflow_add-row : goal.overflow_add-row
overflow_add-row c = omega (arith, c.requires.row_of.few)

pub loop-i-init : goal.loop-i-init
loop-i-init c = asking_start _ _ _ _ _ c.requires.row_of c.first_line-i.ensures c.line_behind-stop.ensures c.next_row-last.ensures

pub item_at-requires : goal.item_at-requires
item_at-requires c =
    let held = item_asked c.loop-i.invariant.items in
    record {
      m_bound = held.0;
      i_bound = held.1;
    }

pub line_has-requires : goal.line_has-requires
line_has-requires c =
    let turn = c.loop-i in
    record {
      context_good = c.requires.context_good;
      entry = asked_entry turn.invariant c.item_at.ensures c.in-Property.is c.requires.indexed;
    }

pub returns-then-line_has : goal.returns-then-line_has
returns-then-line_has c = asked_found c.loop-i.invariant c.item_at.ensures c.in-Property.is c.line_has.ensures c.if-line_has.true

pub overflow_add-i : goal.overflow_add-i
overflow_add-i c = omega (arith, (item_asked c.loop-i.invariant.items).1)

pub loop-i-smaller-in-Property : goal.loop-i-smaller-in-Property
loop-i-smaller-in-Property c = property_less c.loop-i.invariant.items c.item_at.ensures c.in-Property.is

pub loop-i-preserved-in-Property : goal.loop-i-preserved-in-Property
loop-i-preserved-in-Property c = asked_more c.loop-i.invariant c.item_at.ensures c.in-Property.is c.line_has.ensures c.if-line_has.false

pub loop-i-smaller : goal.loop-i-smaller
loop-i-smaller c = inner_less c.loop-i.invariant.items c.item_at.ensures c.in-Inner.is

pub loop-i-preserved : goal.loop-i-preserved
loop-i-preserved c = asked_inner c.loop-i.invariant c.item_at.ensures c.in-Inner.is

pub returns-in-Done : goal.returns-in-Done
returns-in-Done c = asked_none c.loop-i.invariant c.item_at.ensures c.in-Done.is
