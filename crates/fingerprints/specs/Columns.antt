-- Columns of fingerprints: what an answer about many of them at once says.
-- Each answer is certain on one side only, so that a search may look at more places than it is asked for.
use Rattle.std.specs.Prelude.{ℕ, ◌+◌, ◌≤◌, ◌<◌, ◌≡◌, Bool, true, false, List, get_or}

-- x stands at none of the places from `from` up to e
pub record Nowhere (prints : List ℕ) (x from e : ℕ) : Type 0 where
  pub none : (j : ℕ) → from ≤ j → j < e → get_or prints j 0 ≡ x → ⊥

-- where the answer is no, x stands at none of the 64 places from `from` on
pub record NoneNear (prints : List ℕ) (from x : ℕ) (r : Bool) : Type 0 where
  pub no : r ≡ false → Nowhere prints x from (from + 64)

-- where the answer is yes, x is none of the first n fingerprints, which stand behind 64 places; a no says nothing
pub record NewAmong (prints : List ℕ) (n x : ℕ) (r : Bool) : Type 0 where
  pub yes : r ≡ true → (j : ℕ) → j < n → get_or prints (64 + j) 0 ≡ x → ⊥
