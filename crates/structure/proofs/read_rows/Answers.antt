-- `structure::read_rows` meets its contract: the first line begins VCALENDAR, which is read as any component is, and behind it no line may stand.
use Rattle.index.proofs.Index.{entry_here, entry_name}
use Rattle.structure.proofs.Reading.{file_empty, file_entry, file_ready, file_other, file_begun, file_inner, file_more, file_last, file_good}
use native.Mathlib.Omega.{arith}
use Rattle.structure.proofs.read_rows.Goals as goal

pub returns-then-n-eq0 : goal.returns-then-n-eq0
returns-then-n-eq0 c = file_empty _ c.requires.lines c.if-n-eq0.true

pub line_at-line-requires : goal.line_at-line-requires
line_at-line-requires c = file_entry c.requires.lines c.requires.s_len_bound c.if-n-eq0.false

pub name_length-requires : goal.name_length-requires
name_length-requires c = entry_here (file_entry c.requires.lines c.requires.s_len_bound c.if-n-eq0.false)

pub begins_calendar-requires : goal.begins_calendar-requires
begins_calendar-requires c =
    entry_name
    (file_entry c.requires.lines c.requires.s_len_bound c.if-n-eq0.false)
    c.name_length.ensures
    c.line_at-line.ensures

pub returns-then-not-begins_calendar : goal.returns-then-not-begins_calendar
returns-then-not-begins_calendar c =
    file_other
    c.requires.lines
    c.requires.s_len_bound
    c.if-n-eq0.false
    c.line_at-line.ensures
    c.begins_calendar.ensures _
    c.if-not-begins_calendar.true

pub component-requires : goal.component-requires
component-requires c =
    let some_line_holds = c.if-n-eq0.false in
    record {
      ready = file_ready c.requires.lines c.requires.s_len_bound some_line_holds _ c.requires.rows_len;
      left_bound = omega arith;
    }

pub returns-then-j-n : goal.returns-then-j-n
returns-then-j-n c =
    let read = c.component.ensures in
    let closed = c.in-Ok.is in
    let more = c.if-j-n.true in
    file_more (file_begun c.requires.lines c.requires.s_len_bound c.if-n-eq0.false c.line_at-line.ensures c.begins_calendar.ensures c.if-not-begins_calendar.false c.value-name.ensures) _ _ read _ _ _ closed more

pub overflow_cast-j : goal.overflow_cast-j
overflow_cast-j c =
    let few = c.requires.lines.few in
    let read = c.component.ensures in
    let closed = c.in-Ok.is in
    let last = file_last (file_begun c.requires.lines c.requires.s_len_bound c.if-n-eq0.false c.line_at-line.ensures c.begins_calendar.ensures c.if-not-begins_calendar.false c.value-name.ensures) _ _ read _ _ closed in
    omega (arith, last.0, few, c.requires.s_len_bound)

pub overflow_cast-m : goal.overflow_cast-m
overflow_cast-m c =
    let read = c.component.ensures in
    let closed = c.in-Ok.is in
    let last = file_last (file_begun c.requires.lines c.requires.s_len_bound c.if-n-eq0.false c.line_at-line.ensures c.begins_calendar.ensures c.if-not-begins_calendar.false c.value-name.ensures) _ _ read _ _ closed in
    omega (arith, last.1)

pub returns-else-j-n : goal.returns-else-j-n
returns-else-j-n c =
    file_good
    (file_begun c.requires.lines c.requires.s_len_bound c.if-n-eq0.false c.line_at-line.ensures c.begins_calendar.ensures c.if-not-begins_calendar.false c.value-name.ensures) _ _
    c.component.ensures _ _ _ _
    c.in-Ok.is
    c.if-j-n.false
    c.kind_of.ensures
    c.put_row.ensures (omega arith)

pub returns-in-Err : goal.returns-in-Err
returns-in-Err c = file_inner (file_begun c.requires.lines c.requires.s_len_bound c.if-n-eq0.false c.line_at-line.ensures c.begins_calendar.ensures c.if-not-begins_calendar.false c.value-name.ensures) _ _ c.component.ensures _ _ c.in-Err.is
