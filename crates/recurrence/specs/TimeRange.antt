-- The time range test (document 01, Events and blocks, and R-2; RFC 4791 9.9): is an event or a block in the range from a up to, but not including, b?
use Rattle.std.specs.Prelude.{ℕ, ◌≤◌, ◌<◌, ◌≡◌, Bool, true, false, cond, ◌&&◌, ◌||◌, List, [], ◌∷◌, eqb, ltb, leb, None, Option, Some}
use Rattle.periods.specs.declared.Period.{Period}
use Rattle.periods.specs.BusyTypes.{BusyPeriod, periods_of}
use Rattle.events.specs.declared.Event.{Event}
use Rattle.events.specs.declared.Block.{Block}
use Rattle.recurrence.specs.Instances.{utc_clock_of, start_of, end_of, length_by, is_zero_length, occurs, TakesPlace}

-- what stands from s to t, against the range: start < t and end > s; where it has no length, start ≤ s and s < end
unfoldable pub overlaps : ℕ → ℕ → ℕ → ℕ → Bool
overlaps a b s t = cond (eqb s t) (leb a s && ltb s b) (ltb a t && ltb s b)

-- instance k ends after a; of zero length, it starts at a or later
unfoldable pub ends_after : Event → ℕ → ℕ → Bool
ends_after e a k = cond (is_zero_length e) (leb (utc_clock_of a) (start_of e k)) (ltb (utc_clock_of a) (end_of e k))

-- instance k of an event is in range: it stands, ends after the range's start, and starts before its end
unfoldable pub instance_in : Event → List ℕ → ℕ → ℕ → ℕ → Bool
instance_in e gone a b k = occurs e gone k && ends_after e a k && ltb (start_of e k) (utc_clock_of b)

-- an event is in range where some instance is
pub record EventIn (e : Event) (gone : List ℕ) (a b : ℕ) : Type 0 where
  pub number : ℕ
  pub passes : instance_in e gone a b number ≡ true

-- a block with both ends goes by them alone: one that ends where the range starts is in it, one that starts where the range ends is not
unfoldable pub between_in : ℕ → ℕ → ℕ → ℕ → Bool
between_in a b s t = leb a t && ltb s b

-- any other block goes by its periods, free ones too; without one it is in no range
unfoldable pub periods_overlap : ℕ → ℕ → List Period → Bool
periods_overlap a b [] = false
periods_overlap a b (p ∷ ps) = overlaps a b p.start p.end || periods_overlap a b ps

unfoldable pub bounds_in : ℕ → ℕ → Option ℕ → Option ℕ → List BusyPeriod → Bool
bounds_in a b (Some s) (Some t) ps = between_in a b s t
bounds_in a b (Some s) None ps = periods_overlap a b (periods_of ps)
bounds_in a b None (Some t) ps = periods_overlap a b (periods_of ps)
bounds_in a b None None ps = periods_overlap a b (periods_of ps)

unfoldable pub block_in : Block → List BusyPeriod → ℕ → ℕ → Bool
block_in k ps a b = bounds_in a b k.start k.end ps

-- ---- the same for the reader

-- from s to t, against the range: a second of it is in the range; where it has no length, its start is
pub data Overlaps (a b s t : ℕ) : Type 0 where
  with_length : (s ≡ t → ⊥) → a < t → s < b → Overlaps a b s t
  no_length : s ≡ t → a ≤ s → s < b → Overlaps a b s t

-- a block from s to t, against the range
pub record BetweenIn (a b s t : ℕ) : Type 0 where
  pub ends_at_or_after : a ≤ t
  pub starts_before_holds : s < b

-- instance k of an event is in range
pub record InstanceIn (e : Event) (gone : List ℕ) (a b k : ℕ) : Type 0 where
  pub takes_place : TakesPlace e gone k
  pub starts_before_holds : start_of e k < utc_clock_of b
  pub ends_after_holds : (length_by e e.ending ≡ 0 → ⊥) → utc_clock_of a < end_of e k
  pub starts_within : length_by e e.ending ≡ 0 → utc_clock_of a ≤ start_of e k

-- a Bool that decides a statement
pub record Decides (r : Bool) (P : Type 0) : Type 0 where
  pub holds : r ≡ true → P
  pub fails : r ≡ false → P → ⊥
