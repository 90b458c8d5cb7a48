-- A report read as a calendar (document 01, The report's bytes; demand 2): what its one block is, and its periods with their types.
use Rattle.std.specs.Prelude.{List, [], ◌∷◌, ◌++◌, Some}
use Rattle.periods.specs.declared.BusyType.{BusyType}
use Rattle.report.specs.Bytes.{Report}
use Rattle.events.specs.Events.{block}
use Rattle.periods.specs.BusyTypes.{BusyPeriod, typed}
use Rattle.calendar.specs.Meaning.{Meaning, calendar}

-- its periods in file order, each with its type
unfoldable pub report_periods : Report → List BusyPeriod
report_periods r =
    typed BusyType.Busy (r.periods BusyType.Busy)
    ++ (typed BusyType.Tentative (r.periods BusyType.Tentative) ++ typed BusyType.Unavailable (r.periods BusyType.Unavailable))

-- one block over the range, with these periods
unfoldable pub report_meaning : Report → Meaning
report_meaning r = calendar (block (record { start = Some r.start; end = Some r.end }) (report_periods r) ∷ [])
