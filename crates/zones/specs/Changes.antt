-- Between two neighbouring onsets, and outside a gap's ends, the offset does not change (R-5): what is promised of a clock up to which it stays.
use Rattle.std.specs.Prelude.{ℕ, ◌≤◌, ◌<◌, ◌≡◌}
use Rattle.zones.specs.declared.Part.{Part}
use Rattle.zones.specs.declared.Steady.{Steady}
use Rattle.zones.specs.Parts.{clock_end}
use Rattle.zones.specs.Onsets.{IsOnset}
use Rattle.zones.specs.Offsets.{offset_after, offset_of}

-- none of certain clocks lies after w and before r
pub record NoneUntil (On : ℕ → Type 0) (w r : ℕ) : Type 0 where
  pub later : w < r
  pub none : (u : ℕ) → On u → w < u → u < r → ⊥

-- no onset of any part of a zone does
pub record QuietUntil (at : ℕ → Part) (n w r : ℕ) : Type 0 where
  pub later : w < r
  pub in_time : r ≤ clock_end
  pub none : (j u : ℕ) → j < n → IsOnset (at j) u → w < u → u < r → ⊥

-- after the onset t, and no later than `next`
pub record StaysAfter (p : Part) (t w next : ℕ) (r : Steady) : Type 0 where
  pub later : w < r.until
  pub not_past : r.until ≤ next
  pub same : (v : ℕ) → w ≤ v → v < r.until → r.offset ≡ offset_after p v t

-- the offset of w, and of every clock from w up to a later one
pub record SteadyUntil (at : ℕ → Part) (n w : ℕ) (r : Steady) : Type 0 where
  pub offset_is : r.offset ≡ offset_of at n w
  pub later : w < r.until
  pub same : (v : ℕ) → w ≤ v → v < r.until → offset_of at n v ≡ r.offset
