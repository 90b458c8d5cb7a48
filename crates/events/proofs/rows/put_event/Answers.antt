-- `events::rows::put_event` meets its contract: the numbers handed to `put_row` are those of the event.
use Rattle.events.proofs.Events.{kind_code}
use Rattle.events.proofs.EntryRows.{event_numbers, put_as}
use Rattle.events.proofs.rows.put_event.Goals as goal

pub returns : goal.returns
returns c =
    put_as
    c.put_row.ensures
    (event_numbers _
    (kind_code c.args.e.kind)
    c.from-ends.ensures
    c.from-repeats.ensures
    c.report_place.ensures)
