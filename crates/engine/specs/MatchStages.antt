-- The stages of a match: the refusals of each, what it leaves in the work buffer, and the outcome of the stages that follow.
use Rattle.std.specs.Prelude.{◌≡◌, ℕ, List, ◌++◌, Result, Ok}
use Rattle.text.specs.Unfolding.{unfolded}
use Rattle.nesting.specs.Files.{tree_in}
use Rattle.values.specs.declared.times.Context.{Context}
use Rattle.query.specs.Sections.{sections_of}
use Rattle.query.specs.declared.Sections.{Sections}
use Rattle.filter.specs.Tests.{query_holds}
use Rattle.calendar.specs.declared.Refusal.{Refusal}
use Rattle.refusals.specs.Refusals.{first_refusal, contents_rows, calendar_rows}
use Rattle.refusals.specs.Stages.{work_by}
use Rattle.engine.specs.Answers.{Outcome, verdict, outcome_of, unless_refused}
use Rattle.engine.specs.Matching.{query_rows, verdict_by}
use Rattle.engine.specs.declared.Answer.{Answer}

-- an answer with this outcome, and the work buffer by the refusal of the rows before unfolding
pub record Answered (o : Outcome) (early : Result (Unit {0}) Refusal) (cal work : List ℕ) (a : Answer) (left : List ℕ) : Type 0 where
  pub answered : outcome_of a ≡ o
  pub work_left : left ≡ work_by early cal work

-- a match of an unfolded calendar, from refusal 8 on, and from refusal 6 on
unfoldable pub contents_outcome : Context → List ℕ → List ℕ → Sections → Outcome
contents_outcome c u s q = unless_refused (first_refusal (contents_rows c u)) (verdict (query_holds c s q (tree_in u)))

unfoldable pub unfolded_outcome : Context → List ℕ → List ℕ → Sections → Outcome
unfolded_outcome c u s q = unless_refused (first_refusal (calendar_rows c u)) (verdict (query_holds c s q (tree_in u)))

-- a match from the query's refusals on
unfoldable pub query_outcome : Context → List ℕ → List ℕ → Outcome
query_outcome c cal s =
    unless_refused (first_refusal (query_rows s ++ calendar_rows c (unfolded cal))) (verdict (verdict_by c cal s (sections_of s)))

-- from the calendar's refusals on: the query was good
abbrev pub CalendarAnswered : Context → List ℕ → List ℕ → Sections → List ℕ → Answer → List ℕ → Type 0
CalendarAnswered c cal s q work a left = Answered (unfolded_outcome c (unfolded cal) s q) (Ok tt) cal work a left

abbrev pub QueryAnswered : Context → List ℕ → List ℕ → List ℕ → Answer → List ℕ → Type 0
QueryAnswered c cal s work a left = Answered (query_outcome c cal s) (first_refusal (query_rows s)) cal work a left
