-- `component_lines::read_lines` meets its contract: the lines that are left have the first fault and make the whole of what is said, told and stored.
-- Each arm is what one kind of line adds.
use Rattle.std.specs.Prelude.{Err, Ok}
use Rattle.structure.proofs.ItemsLaws.{item_asked, inner_at, inner_less, no_item_at, items_rise}
use Rattle.values.proofs.TimeLists.{times_read, times_unread}
use Rattle.component_lines.specs.Lines.{good, refused}
use Rattle.component_lines.proofs.LinesStoring.{value_stored}
use Rattle.component_lines.proofs.Lines.{nothing_said, uid_said, recurrence_said, line_entry, line_read}
use Rattle.component_lines.proofs.Lines.{reading_start, reading_inner, reading_done, reading_unsupported, reading_bad, reading_plain, reading_periods, reading_bad_period}
use Rattle.component_lines.proofs.Lines.{reading_exceptions, reading_bad_time, plain_said, periods_said, exceptions_said}
use Rattle.component_lines.proofs.Identities.{ties_start, ties_inner, ties_untied, ties_uid, ties_recurrence, ties_room, ties_exceptions, ties_done}
use Rattle.index.proofs.Index.{entry_here, entry_name}
use Rattle.property.specs.Facts.{reading_of}
use mathlib.Core.Path.{sym, ◌∙◌, ap}
use native.Mathlib.Omega.{arith}
use Rattle.component_lines.proofs.read_lines.Goals as goal

pub line_behind-stop-requires : goal.line_behind-stop-requires
line_behind-stop-requires c = c.requires.row_of.room

pub overflow_sub-stop : goal.overflow_sub-stop
overflow_sub-stop c = omega (arith, c.line_behind-stop.ensures, c.requires.row_of.end)

pub next_row-last-requires : goal.next_row-last-requires
next_row-last-requires c = c.requires.row_of.room

pub first_line-i-requires : goal.first_line-i-requires
first_line-i-requires c = c.requires.row_of.room

pub overflow_add-row : goal.overflow_add-row
overflow_add-row c = omega (arith, c.requires.row_of.few)

pub loop-next-init : goal.loop-next-init
loop-next-init c =
    let line_behind_told = c.line_behind-stop in
    let next_row_told = c.next_row-last in
    let no_properties_told = c.no_properties-g in (
      reading_start _ _ c.requires.row_of _ _ c.requires.room c.requires.first_bound _ _ _ no_properties_told.ensures c.first_line-i.ensures line_behind_told.ensures next_row_told.ensures,
      ties_start _ _ _ _ _ _ _ _ _ c.no_identity-y.ensures c.first_line-i.ensures c.requires.room_from c.requires.held_in_bounds,
    )

pub item_at-requires : goal.item_at-requires
item_at-requires c =
    let held = item_asked c.loop-next.invariant.0.items in
    record {
      m_bound = held.0;
      i_bound = held.1;
    }

pub overflow_add-next : goal.overflow_add-next
overflow_add-next c = omega (arith, (item_asked c.loop-next.invariant.0.items).1)

pub line_at-line-requires : goal.line_at-line-requires
line_at-line-requires c = (line_entry c.loop-next.invariant.0 c.item_at.ensures c.in-Property.is c.requires.indexed)

pub name_length-length-requires : goal.name_length-length-requires
name_length-length-requires c = entry_here (line_entry c.loop-next.invariant.0 c.item_at.ensures c.in-Property.is c.requires.indexed)

pub property_value-requires : goal.property_value-requires
property_value-requires c =
    record {
      context_good = c.requires.context_good;
      n_value = entry_name (line_entry c.loop-next.invariant.0 c.item_at.ensures c.in-Property.is c.requires.indexed) c.name_length-length.ensures c.line_at-line.ensures;
    }

pub loop-next-smaller-in-Ok-Nothing : goal.loop-next-smaller-in-Ok-Nothing
loop-next-smaller-in-Ok-Nothing c =
    let read = line_read c.loop-next.invariant.0 c.item_at.ensures c.in-Property.is c.line_at-line.ensures c.property_value.ensures in
    omega (arith, read.here.onward)

pub loop-next-preserved-in-Ok-Nothing : goal.loop-next-preserved-in-Ok-Nothing
unfolding reading_of
loop-next-preserved-in-Ok-Nothing c =
    let read = line_read c.loop-next.invariant.0 c.item_at.ensures c.in-Property.is c.line_at-line.ensures c.property_value.ensures in
    let said = plain_said read (c.in-Ok-Nothing.is ∙ ap Ok c.in-Ok-Nothing.field-0-is) tt in
    (reading_plain read (c.in-Ok-Nothing.is ∙ ap Ok c.in-Ok-Nothing.field-0-is) (nothing_said _) tt, ties_untied c.loop-next.invariant.1 read.here said tt)

pub shape_of-column-in-Err-Unsupported : goal.shape_of-column-in-Err-Unsupported
shape_of-column-in-Err-Unsupported c = (c.loop-next.invariant.0.still.long ∙ sym c.requires.room)

pub shape_of-exceptions-in-Err-Unsupported : goal.shape_of-exceptions-in-Err-Unsupported
shape_of-exceptions-in-Err-Unsupported c = c.loop-next.invariant.1.long

pub returns-in-Err-Unsupported : goal.returns-in-Err-Unsupported
returns-in-Err-Unsupported c =
    let read = line_read c.loop-next.invariant.0 c.item_at.ensures c.in-Property.is c.line_at-line.ensures c.property_value.ensures in
    refused (reading_unsupported read (c.in-Err-Unsupported.is ∙ ap Err c.in-Err-Unsupported.field-0-is))

pub shape_of-column-in-Err-Bad : goal.shape_of-column-in-Err-Bad
shape_of-column-in-Err-Bad c = (c.loop-next.invariant.0.still.long ∙ sym c.requires.room)

pub shape_of-exceptions-in-Err-Bad : goal.shape_of-exceptions-in-Err-Bad
shape_of-exceptions-in-Err-Bad c = c.loop-next.invariant.1.long

pub returns-in-Err-Bad : goal.returns-in-Err-Bad
returns-in-Err-Bad c =
    let read = line_read c.loop-next.invariant.0 c.item_at.ensures c.in-Property.is c.line_at-line.ensures c.property_value.ensures in
    refused (reading_bad read (c.in-Err-Bad.is ∙ ap Err c.in-Err-Bad.field-0-is))

pub loop-next-smaller-in-Ok-Start : goal.loop-next-smaller-in-Ok-Start
loop-next-smaller-in-Ok-Start c =
    let read = line_read c.loop-next.invariant.0 c.item_at.ensures c.in-Property.is c.line_at-line.ensures c.property_value.ensures in
    omega (arith, read.here.onward)

pub loop-next-preserved-in-Ok-Start : goal.loop-next-preserved-in-Ok-Start
unfolding reading_of
loop-next-preserved-in-Ok-Start c =
    let read = line_read c.loop-next.invariant.0 c.item_at.ensures c.in-Property.is c.line_at-line.ensures c.property_value.ensures in
    let said = plain_said read (c.in-Ok-Start.is ∙ ap Ok c.in-Ok-Start.field-0-is) tt in
    (reading_plain read (c.in-Ok-Start.is ∙ ap Ok c.in-Ok-Start.field-0-is) c.with_start-g.ensures tt, ties_untied c.loop-next.invariant.1 read.here said tt)

pub loop-next-smaller-in-Ok-End : goal.loop-next-smaller-in-Ok-End
loop-next-smaller-in-Ok-End c =
    let read = line_read c.loop-next.invariant.0 c.item_at.ensures c.in-Property.is c.line_at-line.ensures c.property_value.ensures in
    omega (arith, read.here.onward)

pub loop-next-preserved-in-Ok-End : goal.loop-next-preserved-in-Ok-End
unfolding reading_of
loop-next-preserved-in-Ok-End c =
    let read = line_read c.loop-next.invariant.0 c.item_at.ensures c.in-Property.is c.line_at-line.ensures c.property_value.ensures in
    let said = plain_said read (c.in-Ok-End.is ∙ ap Ok c.in-Ok-End.field-0-is) tt in
    (reading_plain read (c.in-Ok-End.is ∙ ap Ok c.in-Ok-End.field-0-is) c.with_end-g.ensures tt, ties_untied c.loop-next.invariant.1 read.here said tt)

pub loop-next-smaller-in-Ok-Lasts : goal.loop-next-smaller-in-Ok-Lasts
loop-next-smaller-in-Ok-Lasts c =
    let read = line_read c.loop-next.invariant.0 c.item_at.ensures c.in-Property.is c.line_at-line.ensures c.property_value.ensures in
    omega (arith, read.here.onward)

pub loop-next-preserved-in-Ok-Lasts : goal.loop-next-preserved-in-Ok-Lasts
unfolding reading_of
loop-next-preserved-in-Ok-Lasts c =
    let read = line_read c.loop-next.invariant.0 c.item_at.ensures c.in-Property.is c.line_at-line.ensures c.property_value.ensures in
    let said = plain_said read (c.in-Ok-Lasts.is ∙ ap Ok c.in-Ok-Lasts.field-0-is) tt in
    (reading_plain read (c.in-Ok-Lasts.is ∙ ap Ok c.in-Ok-Lasts.field-0-is) c.with_lasts-g.ensures tt, ties_untied c.loop-next.invariant.1 read.here said tt)

pub loop-next-smaller-in-Ok-Repeats : goal.loop-next-smaller-in-Ok-Repeats
loop-next-smaller-in-Ok-Repeats c =
    let read = line_read c.loop-next.invariant.0 c.item_at.ensures c.in-Property.is c.line_at-line.ensures c.property_value.ensures in
    omega (arith, read.here.onward)

pub loop-next-preserved-in-Ok-Repeats : goal.loop-next-preserved-in-Ok-Repeats
unfolding reading_of
loop-next-preserved-in-Ok-Repeats c =
    let read = line_read c.loop-next.invariant.0 c.item_at.ensures c.in-Property.is c.line_at-line.ensures c.property_value.ensures in
    let said = plain_said read (c.in-Ok-Repeats.is ∙ ap Ok c.in-Ok-Repeats.field-0-is) tt in
    (reading_plain read (c.in-Ok-Repeats.is ∙ ap Ok c.in-Ok-Repeats.field-0-is) c.with_repeats-g.ensures tt, ties_untied c.loop-next.invariant.1 read.here said tt)

pub loop-next-smaller-in-Ok-HasStatus : goal.loop-next-smaller-in-Ok-HasStatus
loop-next-smaller-in-Ok-HasStatus c =
    let read = line_read c.loop-next.invariant.0 c.item_at.ensures c.in-Property.is c.line_at-line.ensures c.property_value.ensures in
    omega (arith, read.here.onward)

pub loop-next-preserved-in-Ok-HasStatus : goal.loop-next-preserved-in-Ok-HasStatus
unfolding reading_of
loop-next-preserved-in-Ok-HasStatus c =
    let read = line_read c.loop-next.invariant.0 c.item_at.ensures c.in-Property.is c.line_at-line.ensures c.property_value.ensures in
    let said = plain_said read (c.in-Ok-HasStatus.is ∙ ap Ok c.in-Ok-HasStatus.field-0-is) tt in
    (reading_plain read (c.in-Ok-HasStatus.is ∙ ap Ok c.in-Ok-HasStatus.field-0-is) c.with_status-g.ensures tt, ties_untied c.loop-next.invariant.1 read.here said tt)

pub loop-next-smaller-in-Ok-Transparent : goal.loop-next-smaller-in-Ok-Transparent
loop-next-smaller-in-Ok-Transparent c =
    let read = line_read c.loop-next.invariant.0 c.item_at.ensures c.in-Property.is c.line_at-line.ensures c.property_value.ensures in
    omega (arith, read.here.onward)

pub loop-next-preserved-in-Ok-Transparent : goal.loop-next-preserved-in-Ok-Transparent
unfolding reading_of
loop-next-preserved-in-Ok-Transparent c =
    let read = line_read c.loop-next.invariant.0 c.item_at.ensures c.in-Property.is c.line_at-line.ensures c.property_value.ensures in
    let said = plain_said read (c.in-Ok-Transparent.is ∙ ap Ok c.in-Ok-Transparent.field-0-is) tt in
    (reading_plain read (c.in-Ok-Transparent.is ∙ ap Ok c.in-Ok-Transparent.field-0-is) c.with_transparency-g.ensures tt, ties_untied c.loop-next.invariant.1 read.here said tt)

pub loop-next-smaller-in-Ok-Uid : goal.loop-next-smaller-in-Ok-Uid
loop-next-smaller-in-Ok-Uid c =
    let read = line_read c.loop-next.invariant.0 c.item_at.ensures c.in-Property.is c.line_at-line.ensures c.property_value.ensures in
    omega (arith, read.here.onward)

pub loop-next-preserved-in-Ok-Uid : goal.loop-next-preserved-in-Ok-Uid
unfolding reading_of
loop-next-preserved-in-Ok-Uid c =
    let read = line_read c.loop-next.invariant.0 c.item_at.ensures c.in-Property.is c.line_at-line.ensures c.property_value.ensures in
    (reading_plain read (c.in-Ok-Uid.is ∙ ap Ok c.in-Ok-Uid.field-0-is) (uid_said _) tt, ties_uid c.loop-next.invariant.1 read.here (plain_said read (c.in-Ok-Uid.is ∙ ap Ok c.in-Ok-Uid.field-0-is) tt) c.with_uid-y.ensures)

pub loop-next-smaller-in-Ok-RecurrenceId : goal.loop-next-smaller-in-Ok-RecurrenceId
loop-next-smaller-in-Ok-RecurrenceId c =
    let read = line_read c.loop-next.invariant.0 c.item_at.ensures c.in-Property.is c.line_at-line.ensures c.property_value.ensures in
    omega (arith, read.here.onward)

pub loop-next-preserved-in-Ok-RecurrenceId : goal.loop-next-preserved-in-Ok-RecurrenceId
unfolding reading_of
loop-next-preserved-in-Ok-RecurrenceId c =
    let read = line_read c.loop-next.invariant.0 c.item_at.ensures c.in-Property.is c.line_at-line.ensures c.property_value.ensures in
    (reading_plain read (c.in-Ok-RecurrenceId.is ∙ ap Ok c.in-Ok-RecurrenceId.field-0-is) (recurrence_said _ _) tt, ties_recurrence c.loop-next.invariant.1 read.here (plain_said read (c.in-Ok-RecurrenceId.is ∙ ap Ok c.in-Ok-RecurrenceId.field-0-is) tt) c.with_recurrence-y.ensures)

pub store_times-requires : goal.store_times-requires
store_times-requires c =
    let read = line_read c.loop-next.invariant.0 c.item_at.ensures c.in-Property.is c.line_at-line.ensures c.property_value.ensures in
    record {
      context_good = c.requires.context_good;
      v_bound = ties_room c.loop-next.invariant.1 read.here c.requires.indexed read.line c.value.ensures c.requires.s_len_bound;
    }

pub loop-next-smaller-in-Some : goal.loop-next-smaller-in-Some
loop-next-smaller-in-Some c =
    let read = line_read c.loop-next.invariant.0 c.item_at.ensures c.in-Property.is c.line_at-line.ensures c.property_value.ensures in
    omega (arith, read.here.onward)

pub loop-next-preserved-in-Some : goal.loop-next-preserved-in-Some
loop-next-preserved-in-Some c =
    let turn = c.loop-next in
    let value_told = c.value in
    let store_times_told = c.store_times in
    let read = line_read c.loop-next.invariant.0 c.item_at.ensures c.in-Property.is c.line_at-line.ensures c.property_value.ensures in
    let kind = (c.in-Ok-HasExceptions.is ∙ ap Ok c.in-Ok-HasExceptions.field-0-is) in
    let value = value_told.ensures in
    let stored = store_times_told.ensures in
    let all = times_read stored _ _ c.in-Some.is in (
      reading_exceptions read kind value all,
      ties_exceptions turn.invariant.1 read.here c.requires.indexed read.line value _ _ c.requires.s_len_bound (exceptions_said read kind value all) stored c.in-Some.is c.with_exceptions-y.ensures,
    )

pub shape_of-column-in-None : goal.shape_of-column-in-None
shape_of-column-in-None c = omega (arith, (c.loop-next.invariant.0.still.long ∙ sym c.requires.room))

pub shape_of-exceptions-in-None : goal.shape_of-exceptions-in-None
shape_of-exceptions-in-None c = omega (arith, c.loop-next.invariant.1.long)

pub returns-in-None : goal.returns-in-None
returns-in-None c =
    let read = line_read c.loop-next.invariant.0 c.item_at.ensures c.in-Property.is c.line_at-line.ensures c.property_value.ensures in
    let value_told = c.value in
    let store_times_told = c.store_times in
    refused (reading_bad_time read (c.in-Ok-HasExceptions.is ∙ ap Ok c.in-Ok-HasExceptions.field-0-is) value_told.ensures (times_unread store_times_told.ensures c.in-None.is))

pub store_value-requires : goal.store_value-requires
store_value-requires c =
    record {
      room = c.loop-next.invariant.0.still.long;
      first_bound = c.loop-next.invariant.0.still.few;
      b_le_last_second = c.requires.b_le_last_second;
    }

pub loop-next-smaller-in-Some-store_value : goal.loop-next-smaller-in-Some-store_value
loop-next-smaller-in-Some-store_value c =
    let read = line_read c.loop-next.invariant.0 c.item_at.ensures c.in-Property.is c.line_at-line.ensures c.property_value.ensures in
    omega (arith, read.here.onward)

pub loop-next-preserved-in-Some-store_value : goal.loop-next-preserved-in-Some-store_value
loop-next-preserved-in-Some-store_value c =
    let turn = c.loop-next in
    let value2_told = c.value-in-Ok-HasPeriods in
    let store_value_told = c.store_value in
    let read = line_read c.loop-next.invariant.0 c.item_at.ensures c.in-Property.is c.line_at-line.ensures c.property_value.ensures in
    let kind = (c.in-Ok-HasPeriods.is ∙ ap Ok c.in-Ok-HasPeriods.field-0-is) in
    let value = value2_told.ensures in
    let stored = store_value_told.ensures in
    let (all, kept) = value_stored stored _ c.in-Some-store_value.is in
    (reading_periods read kind value stored _ c.in-Some-store_value.is, ties_untied turn.invariant.1 read.here (periods_said read kind value all) tt)

pub shape_of-column-in-None-store_value : goal.shape_of-column-in-None-store_value
shape_of-column-in-None-store_value c = omega (arith, (c.loop-next.invariant.0.still.long ∙ sym c.requires.room))

pub shape_of-exceptions-in-None-store_value : goal.shape_of-exceptions-in-None-store_value
shape_of-exceptions-in-None-store_value c = omega (arith, c.loop-next.invariant.1.long)

pub returns-in-None-store_value : goal.returns-in-None-store_value
returns-in-None-store_value c =
    let read = line_read c.loop-next.invariant.0 c.item_at.ensures c.in-Property.is c.line_at-line.ensures c.property_value.ensures in
    let value2_told = c.value-in-Ok-HasPeriods in
    let store_value_told = c.store_value in
    refused (reading_bad_period read (c.in-Ok-HasPeriods.is ∙ ap Ok c.in-Ok-HasPeriods.field-0-is) value2_told.ensures store_value_told.ensures c.in-None-store_value.is)

pub loop-next-smaller : goal.loop-next-smaller
loop-next-smaller c = inner_less c.loop-next.invariant.0.items c.item_at.ensures c.in-Inner.is

pub loop-next-preserved : goal.loop-next-preserved
loop-next-preserved c =
    let inv = c.loop-next.invariant in (
      reading_inner inv.0 c.item_at.ensures c.in-Inner.is,
      ties_inner inv.1 (inner_at inv.0.items c.item_at.ensures c.in-Inner.is),
    )

pub shape_of-column-in-Done : goal.shape_of-column-in-Done
shape_of-column-in-Done c = (c.loop-next.invariant.0.still.long ∙ sym c.requires.room)

pub shape_of-exceptions-in-Done : goal.shape_of-exceptions-in-Done
shape_of-exceptions-in-Done c = c.loop-next.invariant.1.long

pub returns-in-Done : goal.returns-in-Done
returns-in-Done c =
    let inv = c.loop-next.invariant in
    let item = c.item_at.ensures in
    let done = c.in-Done.is in
    good (reading_done inv.0 item done) (ties_done inv.1 (no_item_at inv.0.items item done) (omega (arith, items_rise inv.0.items, c.line_behind-stop.ensures)))
