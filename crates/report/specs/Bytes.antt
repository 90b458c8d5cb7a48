-- The report's bytes (document 01, The report's bytes): its lines, CR LF after each.
use Rattle.std.specs.Prelude.{ℕ, ◌+◌, ◌*◌, ◌≤◌, ◌<◌, List, [], ◌∷◌, ◌++◌, length}
use Rattle.time.specs.Limits.{last_second}
use Rattle.ascii.specs.Words.{ascii}
use Rattle.text.specs.Lines.{joined}
use Rattle.time.specs.Writing.{utc_text}
use Rattle.periods.specs.declared.Period.{Period}
use Rattle.periods.specs.declared.BusyType.{BusyType}

-- what a report says: its range, its stamp, and the periods of each busy type
pub record Report : Type 0 where
  pub start : ℕ
  pub end : ℕ
  pub stamp : ℕ
  pub periods : BusyType → List Period

-- how the line of a period begins: the type is always written; free time has no line in a report
unfoldable pub period_head : BusyType → List ℕ
period_head BusyType.Busy = ascii "FREEBUSY;FBTYPE=BUSY:"
period_head BusyType.Tentative = ascii "FREEBUSY;FBTYPE=BUSY-TENTATIVE:"
period_head BusyType.Unavailable = ascii "FREEBUSY;FBTYPE=BUSY-UNAVAILABLE:"
period_head BusyType.Free = ascii "FREEBUSY;FBTYPE=FREE:"

-- always start/end
unfoldable pub period_text : Period → List ℕ
period_text p = utc_text p.start ++ (47 ∷ utc_text p.end)

-- one period a line
unfoldable pub period_lines : List ℕ → List Period → List (List ℕ)
period_lines h [] = []
period_lines h (p ∷ ps) = (h ++ period_text p) ∷ period_lines h ps

-- the types in their order
unfoldable pub busy_lines : (BusyType → List Period) → List (List ℕ)
busy_lines f =
    period_lines (period_head BusyType.Busy) (f BusyType.Busy)
    ++ (period_lines (period_head BusyType.Tentative) (f BusyType.Tentative) ++ period_lines (period_head BusyType.Unavailable) (f BusyType.Unavailable))

unfoldable pub report_lines : Report → List (List ℕ)
report_lines r =
    ascii "BEGIN:VCALENDAR"
    ∷ ascii "VERSION:2.0"
    ∷ ascii "PRODID:-//Cover Desk//Free Busy//EN"
    ∷ ascii "BEGIN:VFREEBUSY"
    ∷ (ascii "DTSTAMP:" ++ utc_text r.stamp)
    ∷ (ascii "DTSTART:" ++ utc_text r.start)
    ∷ (ascii "DTEND:" ++ utc_text r.end)
    ∷ (busy_lines r.periods ++ (ascii "END:VFREEBUSY" ∷ ascii "END:VCALENDAR" ∷ []))

-- CR LF after each line
unfoldable pub report_bytes : Report → List ℕ
report_bytes r = joined (report_lines r)

-- each period has a second at least, and ends within the limits
pub data GoodPeriods : List Period → Type 0 where
  none : GoodPeriods []
  then : {p : Period} {ps : List Period} → p.start < p.end → p.end ≤ last_second → GoodPeriods ps → GoodPeriods (p ∷ ps)

-- a report that can be written and read back: range, stamp and periods within the limits
pub record Writable (r : Report) : Type 0 where
  pub start_first : r.start < r.end
  pub end_limit : r.end ≤ last_second
  pub stamp_limit : r.stamp ≤ last_second
  pub periods_good : (b : BusyType) → GoodPeriods (r.periods b)

-- how many periods it has
unfoldable pub period_count : Report → ℕ
period_count r = length (r.periods BusyType.Busy) + length (r.periods BusyType.Tentative) + length (r.periods BusyType.Unavailable)

-- the length of its bytes, by the number of periods of each type
unfoldable pub report_length : ℕ → ℕ → ℕ → ℕ
report_length b t u = 190 + 56 * b + 66 * t + 68 * u
