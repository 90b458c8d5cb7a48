-- Unfolding (document 01, Lines): one pass over the original bytes that drops each fold.
use Rattle.std.specs.Prelude.{ℕ, ◌+◌, ◌≤◌, ◌<◌, ◌≡◌, Bool, true, false, not, ◌&&◌, ◌||◌, List, [], ◌∷◌, ◌++◌, eqb, length, drop, get_or}

-- CR LF
unfoldable pub is_break : ℕ → ℕ → Bool
is_break a b = eqb a 13 && eqb b 10

-- space or tab
unfoldable pub is_blank : ℕ → Bool
is_blank b = eqb b 32 || eqb b 9

-- a fold: CR LF followed by a blank
unfoldable pub is_fold : ℕ → ℕ → ℕ → Bool
is_fold a b c = is_break a b && is_blank c

-- a fold's three bytes are dropped and the pass goes on after them, any other byte is kept
unfoldable pub unfolded : List ℕ → List ℕ
unfolded [] = []
unfolded (a ∷ []) = a ∷ []
unfolded (a ∷ b ∷ []) = a ∷ b ∷ []
unfolded (a ∷ b ∷ c ∷ s) = elim (is_fold a b c) [ true ↦ unfolded s | false ↦ a ∷ unfolded (b ∷ c ∷ s) ]

-- a fold begins at place i; past the end stand zeros, so a fold lies inside
unfoldable pub fold_at : List ℕ → ℕ → Bool
fold_at s i = is_fold (get_or s i 0) (get_or s (i + 1) 0) (get_or s (i + 2) 0)

-- a test of places fails at each from `from` up to e
pub record Nowhere (f : List ℕ → ℕ → Bool) (s : List ℕ) (from e : ℕ) : Type 0 where
  pub order : from ≤ e
  pub inside : e ≤ length s
  pub none : (k : ℕ) → from ≤ k → k < e → f s k ≡ false

-- an answer about all these places at once: where it is no, the test fails at each
pub record Excludes (f : List ℕ → ℕ → Bool) (s : List ℕ) (from e : ℕ) (r : Bool) : Type 0 where
  pub no : r ≡ false → Nowhere f s from e

-- the first fold from `from` on begins at e; without one, e is the length
pub record NextFold (s : List ℕ) (from e : ℕ) : Type 0 where
  pub before : Nowhere fold_at s from e
  pub here : e < length s → fold_at s e ≡ true

-- nowhere a fold
unfoldable pub no_fold : List ℕ → Bool
no_fold [] = true
no_fold (a ∷ []) = true
no_fold (a ∷ b ∷ []) = true
no_fold (a ∷ b ∷ c ∷ s) = not (is_fold a b c) && no_fold (b ∷ c ∷ s)

-- what unfolding leaves in the work buffer: the unfolded calendar first, every later byte as it was
pub record Unfolded (cal work left : List ℕ) (n : ℕ) : Type 0 where
  pub count : n ≡ length (unfolded cal)
  pub bytes : left ≡ unfolded cal ++ drop (length (unfolded cal)) work
