-- Columns of seconds: is one among them, and are they in order.
-- The starts that exceptions take away from a recurring event stand in such a column.
use Rattle.std.specs.Prelude.{ℕ, ◌≤◌, ◌<◌, ◌≡◌, Bool, false, ◌||◌, List, [], ◌∷◌, eqb, length, get_or}

-- x is one of the seconds
unfoldable pub among : ℕ → List ℕ → Bool
among x [] = false
among x (s ∷ ss) = eqb x s || among x ss

-- no second is later than one that stands behind it; a second may stand there twice
pub record Ordered (l : List ℕ) : Type 0 where
  pub at : (i j : ℕ) → i ≤ j → j < length l → get_or l i 0 ≤ get_or l j 0

-- in order, with the same seconds and as many places; how often a second stands there is not said
pub record Sorted (old new : List ℕ) : Type 0 where
  pub long : length new ≡ length old
  pub ordered : Ordered new
  pub same : (x : ℕ) → among x new ≡ among x old
