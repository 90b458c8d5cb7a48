-- The calendar terms of a call (document 01, Two questions): calendar, range, offset, stamp and work buffer; what they report, and refusals 1 to 3 and 6 to 11.
use Rattle.std.specs.Prelude.{ℕ, ◌-◌, Bool, not, ◌&&◌, List, [], ◌∷◌, ◌++◌, ltb, leb, length, ℤ}
use Rattle.time.specs.Limits.{last_second, range_good}
use Rattle.text.specs.Unfolding.{unfolded}
use Rattle.periods.specs.declared.BusyType.{BusyType}
use Rattle.table.specs.Runs.{runs}
use Rattle.report.specs.Bytes.{Report}
use Rattle.periods.specs.BusyTypes.{BusyPeriod}
use Rattle.events.specs.Events.{Entry}
use Rattle.calendar.specs.Meaning.{entries_of, components_of}
use Rattle.pieces.specs.Covered.{covered}
use Rattle.pieces.specs.Pieces.{busy_pieces}
use Rattle.refusals.specs.Refusals.{Row, row, size_rows, calendar_rows}
use Rattle.refusals.specs.Offsets.{offset_good, context_of}

-- what every call about busy time is handed; a call adds its own to them, as a report its output
pub record CalendarTerms : Type 0 where
  pub calendar : List ℕ
  pub start : ℕ
  pub end : ℕ
  pub offset : ℤ
  pub stamp : ℕ
  pub work : List ℕ

-- a stamp within the limits
unfoldable pub stamp_good : ℕ → Bool
stamp_good t = leb t last_second

-- the events and blocks of a calendar, by its bytes and its offset alone
unfoldable pub entries_in : List ℕ → ℤ → List Entry
entries_in cal o = entries_of (context_of o) (components_of (unfolded cal))

-- is a second covered under a busy type, by the calendar and its offset alone?
unfoldable pub covered_in : List ℕ → ℤ → BusyType → ℕ → Bool
covered_in cal o b x = covered b (entries_in cal o) x

-- the busy pieces of the terms
unfoldable pub pieces_for : CalendarTerms → List BusyPeriod
pieces_for m = busy_pieces m.start m.end (entries_in m.calendar m.offset)

-- what their report says: for each type the covered seconds of the range as the fewest periods
unfoldable pub report_for : CalendarTerms → Report
report_for m =
    record {
      start = m.start;
      end = m.end;
      stamp = m.stamp;
      periods = λ b. runs (covered_in m.calendar m.offset b) m.start (m.end - m.start);
    }

-- ---- their rows, in the order in which they are asked

-- 1: range, stamp or offset
unfoldable pub terms_row : CalendarTerms → Row
terms_row m = row 1 0 (not (range_good m.start m.end && stamp_good m.stamp && offset_good m.offset))

-- 1 to 3, before the calendar is unfolded
unfoldable pub early_rows : CalendarTerms → List Row
early_rows m = terms_row m ∷ size_rows m.calendar m.work

-- 11: more than 512 busy pieces
unfoldable pub piece_row : List BusyPeriod → Row
piece_row ps = row 11 0 (ltb 512 (length ps))

-- 6 to 11, of the unfolded calendar
unfoldable pub late_rows : CalendarTerms → List Row
late_rows m = calendar_rows (context_of m.offset) (unfolded m.calendar) ++ (piece_row (pieces_for m) ∷ [])

unfoldable pub collect_rows : CalendarTerms → List Row
collect_rows m = early_rows m ++ late_rows m
