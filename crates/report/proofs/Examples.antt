-- The report of document 01, The report's bytes, and how long a report without busy time is.
use Prim.Native.Nat.{ℕ}
use mathlib.Core.Path.{◌≡◌, refl}
use mathlib.Core.List.{List, [], ◌∷◌}
use lib.ListN.{length}
use Rattle.ascii.specs.Words.{ascii}
use Rattle.text.specs.Lines.{joined}
use Rattle.time.specs.Days.{is_leap, month_lengths, length_in, before_in, days_before_month, year_days, days_before_year}
use Rattle.time.specs.Writing.{year_from, year_of, day_of_year, begun, month_in, day_of, digit, date_text, time_text, utc_text}
use Rattle.periods.specs.declared.Period.{Period}
use Rattle.periods.specs.declared.BusyType.{BusyType}
use Rattle.periods.specs.Periods.{period}
use Rattle.report.specs.Bytes.{Report, period_head, period_text, period_lines, busy_lines, report_lines, report_bytes, report_length}
use Rattle.report.proofs.Bytes.{report_length_lem}

-- no busy time: 190 bytes
pub empty_length : (a b s : ℕ) → length (report_bytes (record { start = a; end = b; stamp = s; periods = λ t. [] })) ≡ 190
unfolding report_length
empty_length a b s = report_length_lem (record { start = a; end = b; stamp = s; periods = λ t. [] })

-- 11 March 2024, 08:00 to 18:00: busy up to 09:15, and tentatively from 09:00 to 10:30
unfoldable pub example_periods : BusyType → List Period
example_periods BusyType.Busy = period 1710144000 1710148500 ∷ []
example_periods BusyType.Tentative = period 1710147600 1710153000 ∷ []
example_periods BusyType.Unavailable = []
example_periods BusyType.Free = []

unfoldable pub example_report : Report
example_report = record { start = 1710144000; end = 1710180000; stamp = 1710050400; periods = example_periods }

pub example_length : length (report_bytes example_report) ≡ 312
unfolding report_length example_report example_periods
example_length = report_length_lem example_report

pub example_bytes : report_bytes example_report
    ≡ joined
    (ascii "BEGIN:VCALENDAR"
    ∷ ascii "VERSION:2.0"
    ∷ ascii "PRODID:-//Cover Desk//Free Busy//EN"
    ∷ ascii "BEGIN:VFREEBUSY"
    ∷ ascii "DTSTAMP:20240310T060000Z"
    ∷ ascii "DTSTART:20240311T080000Z"
    ∷ ascii "DTEND:20240311T180000Z"
    ∷ ascii "FREEBUSY;FBTYPE=BUSY:20240311T080000Z/20240311T091500Z"
    ∷ ascii "FREEBUSY;FBTYPE=BUSY-TENTATIVE:20240311T090000Z/20240311T103000Z"
    ∷ ascii "END:VFREEBUSY"
    ∷ ascii "END:VCALENDAR"
    ∷ [])
unfolding example_report example_periods report_bytes report_lines busy_lines period_lines period_text period_head utc_text date_text time_text digit day_of month_in begun year_from year_of day_of_year is_leap month_lengths length_in before_in days_before_month year_days days_before_year
example_bytes = refl
