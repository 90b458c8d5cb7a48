-- The public answer and its three kinds (document 01, Refusal numbers): yes or no, how long the report is, or which refusal.
use Rattle.std.specs.Prelude.{ℕ, Bool, Result, Ok, Err}
use Rattle.calendar.specs.declared.Refusal.{Refusal}
use Rattle.engine.specs.declared.Answer.{Answer}

pub data Outcome : Type 0 where
  verdict : Bool → Outcome
  report : ℕ → Outcome
  -- a number and the line at fault, 0 where it has none
  refusal : ℕ → ℕ → Outcome

-- the rules' number and values for each case of the answer
unfoldable pub outcome_of : Answer → Outcome
outcome_of (Answer.Verdict b) = verdict b
outcome_of (Answer.Length n) = report n
outcome_of (Answer.Refused n i) = refusal n i

-- an answer to a report call by the report's length or its refusal
unfoldable pub answer_by : Result ℕ Refusal → Answer
answer_by (Ok n) = Answer.Length n
answer_by (Err r) = Answer.Refused r.number r.line

-- an answer to a match call by the verdict or its refusal
abbrev pub match_answer : Result Bool Refusal → Answer
match_answer (Ok b) = Answer.Verdict b
match_answer (Err r) = Answer.Refused r.number r.line

-- the length that is told, 0 where there is a refusal
abbrev pub length_told : Result ℕ Refusal → ℕ
length_told (Ok n) = n
length_told (Err r) = 0

-- the length of a report, 0 for any other outcome
unfoldable pub length_in : Outcome → ℕ
length_in (verdict b) = 0
length_in (report n) = n
length_in (refusal k i) = 0

-- the first refusal that applies, else the answer
unfoldable pub unless_refused : Result (Unit {0}) Refusal → Outcome → Outcome
unless_refused (Ok _) o = o
unless_refused (Err r) o = refusal r.number r.line
