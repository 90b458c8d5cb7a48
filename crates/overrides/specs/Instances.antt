-- Which instance a RECURRENCE-ID names, and which starts are taken away from a VEVENT (request R-3).
-- Whether an instance is left is `occurs` of recurrence, with these starts.
use Rattle.std.specs.Prelude.{ℕ, ◌-◌, ◌/◌, ◌≡◌, Bool, true, false, cond, ◌&&◌, eqb}
use mathlib.Core.List.{List, [], ◌∷◌, ◌++◌, Memᴰ}
use Rattle.values.specs.TimeLists.{seconds_of}
use Rattle.events.specs.declared.Event.{Event}
use Rattle.recurrence.specs.Instances.{utc_clock_of, step_of, start_of, is_instance, occurs}
use Rattle.overrides.specs.VEvents.{VEvent, is_master, is_override, shares_uid, Master, SharesUid}

-- the only number that an instance at s can have, by one division
unfoldable pub number_at : Event → ℕ → ℕ
number_at e s = (s - e.start) / step_of e

-- s is the start of an instance, whether that is taken away or not
unfoldable pub names_instance : Event → ℕ → Bool
names_instance e s = is_instance e (number_at e s) && eqb (start_of e (number_at e s)) (utc_clock_of s)

-- the seconds that overrides among these name, where they share a UID with v
unfoldable pub moved_from : VEvent → List VEvent → List ℕ
moved_from v [] = []
moved_from v (w ∷ ws) = cond (is_override w && shares_uid v w) (seconds_of w.recurrence_ids) [] ++ moved_from v ws

-- from a master its exceptions and what overrides name are taken away; from an override nothing is
unfoldable pub removed_from : List VEvent → VEvent → List ℕ
removed_from all v = cond (is_master v) (seconds_of v.exceptions ++ moved_from v all) []

-- ---- the same for the reader

pub record NamesInstance (e : Event) (s : ℕ) : Type 0 where
  pub number : ℕ
  pub there : is_instance e number ≡ true
  pub starts : start_of e number ≡ utc_clock_of s

-- an instance of v that starts at s is taken away
pub data Removed (all : List VEvent) (v : VEvent) (s : ℕ) : Type 0 where
  excluded : Master v → Memᴰ s (seconds_of v.exceptions) → Removed all v s
  moved : Master v → (w : VEvent) → Memᴰ w all → SharesUid v w → Memᴰ s (seconds_of w.recurrence_ids) → Removed all v s

-- an override names s: the event e of its master m has an instance there, and it is taken away
pub record Replaces (all : List VEvent) (m : VEvent) (e : Event) (s : ℕ) : Type 0 where
  pub names : NamesInstance e s
  pub gone : (k : ℕ) → start_of e k ≡ utc_clock_of s → occurs e (removed_from all m) k ≡ false
