-- The last stage of a report: refusal 12, or the bytes written.
use Rattle.std.specs.Prelude.{◌≡◌, ℕ, true, List, [], ◌∷◌, length, Result}
use Rattle.periods.specs.declared.BusyType.{BusyType}
use Rattle.periods.specs.BusyTypes.{is_busy}
use Rattle.table.specs.Seconds.{seconds_in}
use Rattle.report.specs.Bytes.{Report, report_bytes}
use Rattle.calendar.specs.declared.Refusal.{Refusal}
use Rattle.calendar.specs.Refused.{refusal_of}
use Rattle.refusals.specs.Refusals.{Row, first_refusal}
use Rattle.engine.specs.Answers.{Outcome, report, length_in, length_told, unless_refused}
use Rattle.engine.specs.Reporting.{output_row, output_after, seconds_told}
use Rattle.engine.specs.declared.ReportSeconds.{ReportSeconds}

-- 12
unfoldable pub write_rows : List ℕ → List ℕ → List Row
write_rows bytes out = output_row bytes out ∷ []

-- what row 12 alone lets through: the bytes' length
unfoldable pub write_outcome : List ℕ → List ℕ → Outcome
write_outcome bytes out = unless_refused (first_refusal (write_rows bytes out)) (report (length bytes))

-- the bytes stand first in the output, or it is too short for them and unchanged
pub record Wrote (bytes out : List ℕ) (w : Result ℕ Refusal) (out-left : List ℕ) : Type 0 where
  pub fault_is : refusal_of w ≡ first_refusal (write_rows bytes out)
  pub length_is : length_told w ≡ length_in (write_outcome bytes out)
  pub output_left_is : out-left ≡ output_after (write_outcome bytes out) bytes out

-- the same of a report, with the seconds of each type
pub record WroteCounted (p : Report) (out : List ℕ) (r : ReportSeconds) (out-left : List ℕ) : Type 0 where
  pub wrote : Wrote (report_bytes p) out r.written out-left
  pub seconds_are : (b : BusyType) → is_busy b ≡ true → seconds_told r b ≡ seconds_in (p.periods b)
