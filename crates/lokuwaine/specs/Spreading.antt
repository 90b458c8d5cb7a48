-- An answer spread over three numbers: its kind, its value and its line.
use Rattle.std.specs.Prelude.{ℕ, ◌≡◌, Bool, true, false, List}
use Rattle.report.specs.Bytes.{report_bytes}
use Rattle.refusals.specs.Refusals.{first_refusal}
use Rattle.refusals.specs.Stages.{work_by}
use Rattle.collecting.specs.CalendarTerms.{report_for, early_rows}
use Rattle.engine.specs.Answers.{Outcome, verdict, report, refusal, outcome_of}
use Rattle.engine.specs.Matching.{MatchCall, early_match_rows, match_outcome}
use Rattle.engine.specs.Reporting.{ReportCall, report_outcome, output_after}
use Rattle.engine.specs.declared.Answer.{Answer}
use Rattle.lokuwaine.specs.declared.Spread.{Spread}

-- 0 for a verdict, 1 for a report's length, 2 for a refusal
unfoldable pub kind_of : Outcome → ℕ
kind_of (verdict b) = 0
kind_of (report n) = 1
kind_of (refusal n i) = 2

unfoldable pub verdict_value : Bool → ℕ
verdict_value true = 1
verdict_value false = 0

-- 1 for yes and 0 for no; the length; the refusal's number
unfoldable pub value_of : Outcome → ℕ
value_of (verdict b) = verdict_value b
value_of (report n) = n
value_of (refusal n i) = n

-- the line at fault; an answer and a refusal without one have 0
unfoldable pub line_in : Outcome → ℕ
line_in (verdict b) = 0
line_in (report n) = 0
line_in (refusal n i) = i

-- the same of the answer as the code has it
unfoldable pub spread_of : Answer → Spread
spread_of a = record { kind = kind_of (outcome_of a); value = value_of (outcome_of a); line = line_in (outcome_of a) }

-- kind, value and line of a match, and its work buffer
pub record MatchSpread (m : MatchCall) (kind value line : ℕ) (left : List ℕ) : Type 0 where
  pub kind_is : kind ≡ kind_of (match_outcome m)
  pub value_is : value ≡ value_of (match_outcome m)
  pub line_is : line ≡ line_in (match_outcome m)
  pub work_left_is : left ≡ work_by (first_refusal (early_match_rows m)) m.calendar m.work

-- the same of a report, and its output
pub record ReportSpread (m : ReportCall) (kind value line : ℕ) (work_left out-left : List ℕ) : Type 0 where
  pub kind_is : kind ≡ kind_of (report_outcome m)
  pub value_is : value ≡ value_of (report_outcome m)
  pub line_is : line ≡ line_in (report_outcome m)
  pub work_left_is : work_left ≡ work_by (first_refusal (early_rows m.terms)) m.terms.calendar m.terms.work
  pub output_left_is : out-left ≡ output_after (report_outcome m) (report_bytes (report_for m.terms)) m.output
