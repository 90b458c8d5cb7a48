-- Which line a fault of nesting names (change request R-1): the first one behind which nothing can mend the file,
-- or one more than there are lines, where only more lines could end it.
use Rattle.std.specs.Prelude.{ℕ, ◌+◌, ◌≡◌, List, [], ◌∷◌, ◌++◌, length}
use Rattle.line.specs.Grammar.{ContentLine}
use Rattle.line.specs.WellFormed.{all_good}
use Rattle.nesting.specs.Nesting.{nesting_of}

-- some continuation of these lines keeps the rules
pub record GoesOn (p : List ContentLine) : Type 0 where
  pub more : List ContentLine
  pub good : nesting_of (p ++ more) ≡ all_good

-- line number k is the first after which none does
pub record BreaksAt (xs : List ContentLine) (k : ℕ) : Type 0 where
  pub before : List ContentLine
  pub line : ContentLine
  pub behind : List ContentLine
  pub file : xs ≡ before ++ (line ∷ behind)
  pub number : k ≡ length before + 1
  pub goes_on : GoesOn before
  pub stuck : GoesOn (before ++ (line ∷ [])) → ⊥

-- the file just stops: lines are missing behind its last
pub record StopsAt (xs : List ContentLine) (k : ℕ) : Type 0 where
  pub number : k ≡ length xs + 1
  pub goes_on : GoesOn xs
  pub unfinished : nesting_of xs ≡ all_good → ⊥

pub data FaultAt (xs : List ContentLine) (k : ℕ) : Type 0 where
  breaks : BreaksAt xs k → FaultAt xs k
  stops : StopsAt xs k → FaultAt xs k
