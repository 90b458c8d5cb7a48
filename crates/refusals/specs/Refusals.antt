-- The refusal table (document 01, Refusal numbers): a row for each number, with its own condition; the first of a call's list that applies is given.
use Rattle.std.specs.Prelude.{ℕ, ◌≡◌, Bool, true, false, ltb, length, Err, None, Ok, Option, Result, Some}
use Rattle.calendar.specs.declared.LineError.{LineError}
use mathlib.Core.List.{List, [], ◌∷◌, ◌++◌, Memᴰ}
use Rattle.line.specs.WellFormed.{line_check, LineCheck, all_good, bad_line}
use Rattle.nesting.specs.Nesting.{nesting_of}
use Rattle.values.specs.declared.times.Context.{Context}
use Rattle.calendar.specs.Meaning.{file_lines, components_of, value_fault, rule_fault}
use Rattle.calendar.specs.FirstFaults.{First}
use Rattle.calendar.specs.declared.Refusal.{Refusal}
use Rattle.calendar.specs.Refused.{refused_at}

-- a row: its number, the line at fault (0 for none), and whether its condition holds of what was handed in
pub record Row : Type 0 where
  pub number : ℕ
  pub line : ℕ
  pub applies : Bool

abbrev pub row : ℕ → ℕ → Bool → Row
row n i t = record { number = n; line = i; applies = t }

-- the first row that applies
unfoldable pub first_refusal : List Row → Result (Unit {0}) Refusal
first_refusal [] = Ok tt
first_refusal (r ∷ rs) = elim r.applies [ true ↦ refused_at r.number r.line | false ↦ first_refusal rs ]

-- row k applies, its fault at line i, whether or not one before it does
pub record RowApplies (rows : List Row) (k i : ℕ) : Type 0 where
  pub which : Row
  pub listed : Memᴰ which rows
  pub numbered : which.number ≡ k
  pub lined : which.line ≡ i
  pub applies : which.applies ≡ true

-- no row applies: no numbered refusal is given
unfoldable pub NoneApplies : List Row → Type 0
NoneApplies rows = (k i : ℕ) → RowApplies rows k i → ⊥

unfoldable pub Applies : Row → Type 0
Applies r = r.applies ≡ true

-- row k is the first that applies, its fault at line i
pub record FirstApplies (rows : List Row) (k i : ℕ) : Type 0 where
  pub which : Row
  pub first : First Applies rows which
  pub numbered : which.number ≡ k
  pub lined : which.line ≡ i

-- ---- the rows of sizes

-- 2: more than 65,536 bytes of calendar; 3: too little work buffer for it
unfoldable pub size_rows : List ℕ → List ℕ → List Row
size_rows cal work = row 2 0 (ltb 65536 (length cal)) ∷ row 3 0 (ltb (length work) (length cal)) ∷ []

-- ---- the rows of a calendar, from its unfolded bytes

-- 6: some line badly formed; 7: nesting wrong
unfoldable pub line_row : ℕ → LineCheck → Row
line_row k all_good = row k 0 false
line_row k (bad_line i) = row k i true

-- 8: an unsupported thing on the first line with either; 9: a bad value there
unfoldable pub unsupported_row : Result (Unit {0}) LineError → Row
unsupported_row (Ok _) = row 8 0 false
unsupported_row (Err (LineError.Unsupported i)) = row 8 i true
unsupported_row (Err (LineError.Bad i)) = row 8 0 false

unfoldable pub bad_value_row : Result (Unit {0}) LineError → Row
bad_value_row (Ok _) = row 9 0 false
bad_value_row (Err (LineError.Unsupported i)) = row 9 0 false
bad_value_row (Err (LineError.Bad i)) = row 9 i true

-- 10: component rule broken
unfoldable pub rule_row : Option ℕ → Row
rule_row None = row 10 0 false
rule_row (Some i) = row 10 i true

-- 6 and 7
unfoldable pub structure_rows : List ℕ → List Row
structure_rows u = line_row 6 (line_check u) ∷ line_row 7 (nesting_of (file_lines u)) ∷ []

-- 8 to 10
unfoldable pub contents_rows : Context → List ℕ → List Row
contents_rows c u =
    unsupported_row (value_fault c (components_of u)) ∷ bad_value_row (value_fault c (components_of u)) ∷ rule_row (rule_fault c (components_of u)) ∷ []

-- 6 to 10
unfoldable pub calendar_rows : Context → List ℕ → List Row
calendar_rows c u = structure_rows u ++ contents_rows c u
