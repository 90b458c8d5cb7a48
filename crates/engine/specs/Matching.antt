-- The match call (document 01, Two questions): what is handed in, its rows of the refusal table, its answer and its work buffer.
use Rattle.std.specs.Prelude.{ℕ, ◌≡◌, Bool, false, not, List, [], ◌∷◌, ◌++◌, ℤ, None, Option, Some}
use Rattle.query.specs.declared.Sections.{Sections}
use Rattle.text.specs.Unfolding.{unfolded}
use Rattle.nesting.specs.Files.{tree_in}
use Rattle.values.specs.declared.times.Context.{Context}
use Rattle.query.specs.Sections.{sections_of}
use Rattle.query_check.specs.WellFormed.{query_good, range_misplaced}
use Rattle.filter.specs.Tests.{query_holds}
use Rattle.refusals.specs.Refusals.{Row, row, first_refusal, size_rows, calendar_rows}
use Rattle.refusals.specs.Offsets.{offset_good, context_of}
use Rattle.refusals.specs.Stages.{work_by}
use Rattle.engine.specs.Answers.{Outcome, verdict, outcome_of, unless_refused}
use Rattle.engine.specs.declared.Answer.{Answer}

-- what is handed in
pub record MatchCall : Type 0 where
  pub calendar : List ℕ
  pub query : List ℕ
  pub offset : ℤ
  pub work : List ℕ

-- 4: query badly formed; 5: a time range where none can be
unfoldable pub misplaced_in : List ℕ → Option Sections → Bool
misplaced_in s (Some q) = range_misplaced s q
misplaced_in s None = false

unfoldable pub query_rows : List ℕ → List Row
query_rows s = row 4 0 (not (query_good s)) ∷ row 5 0 (misplaced_in s (sections_of s)) ∷ []

-- 1: the offset
unfoldable pub offset_row : ℤ → Row
offset_row o = row 1 0 (not (offset_good o))

-- 1 to 5, before the calendar is unfolded
unfoldable pub early_match_rows : MatchCall → List Row
early_match_rows m = offset_row m.offset ∷ (size_rows m.calendar m.work ++ query_rows m.query)

-- then 6 to 10, of the unfolded calendar
unfoldable pub match_rows : MatchCall → List Row
match_rows m = early_match_rows m ++ calendar_rows (context_of m.offset) (unfolded m.calendar)

-- the query on the component tree of the unfolded calendar
unfoldable pub verdict_by : Context → List ℕ → List ℕ → Option Sections → Bool
verdict_by c cal s (Some q) = query_holds c s q (tree_in (unfolded cal))
verdict_by c cal s None = false

unfoldable pub verdict_of : MatchCall → Bool
verdict_of m = verdict_by (context_of m.offset) m.calendar m.query (sections_of m.query)

-- the first refusal that applies, else the verdict
unfoldable pub match_outcome : MatchCall → Outcome
match_outcome m = unless_refused (first_refusal (match_rows m)) (verdict (verdict_of m))

-- the whole promise of a match call: its answer, and every byte of the work buffer it leaves
pub record Matched (m : MatchCall) (a : Answer) (left : List ℕ) : Type 0 where
  pub answered : outcome_of a ≡ match_outcome m
  pub work_left : left ≡ work_by (first_refusal (early_match_rows m)) m.calendar m.work
