-- The report call (document 01, Two questions): refusal 12, its answer, its work buffer and its output.
use Rattle.std.specs.Prelude.{ℕ, ◌≡◌, true, List, [], ◌∷◌, ◌++◌, ltb, length, drop}
use Rattle.table.specs.Seconds.{seconds_in}
use Rattle.periods.specs.declared.BusyType.{BusyType}
use Rattle.periods.specs.BusyTypes.{is_busy}
use Rattle.report.specs.Bytes.{report_bytes}
use Rattle.calendar.specs.Refused.{refusal_of}
use Rattle.refusals.specs.Refusals.{Row, row, first_refusal}
use Rattle.refusals.specs.Stages.{work_by}
use Rattle.collecting.specs.CalendarTerms.{CalendarTerms, report_for, early_rows, collect_rows}
use Rattle.collecting.specs.Collecting.{periods_by}
use Rattle.engine.specs.Answers.{Outcome, verdict, report, refusal, outcome_of, length_in, length_told, unless_refused}
use Rattle.engine.specs.declared.Answer.{Answer}
use Rattle.engine.specs.declared.ReportSeconds.{ReportSeconds}

-- what is handed in: the calendar terms, and an output
pub record ReportCall : Type 0 where
  pub terms : CalendarTerms
  pub output : List ℕ

-- 12: output buffer shorter than the report
unfoldable pub output_row : List ℕ → List ℕ → Row
output_row bytes out = row 12 0 (ltb (length out) (length bytes))

-- the rows of the terms, then 12
unfoldable pub report_rows : ReportCall → List Row
report_rows m = collect_rows m.terms ++ (output_row (report_bytes (report_for m.terms)) m.output ∷ [])

-- the first refusal that applies, else the length of the report
unfoldable pub report_outcome : ReportCall → Outcome
report_outcome m = unless_refused (first_refusal (report_rows m)) (report (length (report_bytes (report_for m.terms))))

-- the output afterwards: as it was where there is a refusal, else the report and behind it what was there
unfoldable pub output_after : Outcome → List ℕ → List ℕ → List ℕ
output_after (verdict b) bytes out = out
output_after (report n) bytes out = bytes ++ drop (length bytes) out
output_after (refusal k i) bytes out = out

-- the whole promise of a report call: its answer, every byte of the work buffer and every byte of the output
pub record Reported (m : ReportCall) (a : Answer) (work_left out-left : List ℕ) : Type 0 where
  pub answered : outcome_of a ≡ report_outcome m
  pub work_left_is : work_left ≡ work_by (first_refusal (early_rows m.terms)) m.terms.calendar m.terms.work
  pub output_left_is : out-left ≡ output_after (report_outcome m) (report_bytes (report_for m.terms)) m.output

-- the seconds that are told of a busy type
unfoldable pub seconds_told : ReportSeconds → BusyType → ℕ
seconds_told r BusyType.Busy = r.busy
seconds_told r BusyType.Tentative = r.tentative
seconds_told r BusyType.Unavailable = r.unavailable
seconds_told r BusyType.Free = 0

-- the same call, which tells besides the refusal or none with its line, the length, and the seconds of each type that its report was written from
pub record ReportedSeconds (m : ReportCall) (r : ReportSeconds) (work_left out-left : List ℕ) : Type 0 where
  pub fault_is : refusal_of r.written ≡ first_refusal (report_rows m)
  pub length_is : length_told r.written ≡ length_in (report_outcome m)
  pub work_left_is : work_left ≡ work_by (first_refusal (early_rows m.terms)) m.terms.calendar m.terms.work
  pub output_left_is : out-left ≡ output_after (report_outcome m) (report_bytes (report_for m.terms)) m.output
  pub seconds_are : (b : BusyType) → is_busy b ≡ true → seconds_told r b ≡ seconds_in (periods_by (first_refusal (collect_rows m.terms)) m.terms b)
