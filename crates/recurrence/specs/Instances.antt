-- Recurrence instances of an event (document 01, Events and blocks): when each starts and ends, and which there are.
use Rattle.std.specs.Prelude.{ℕ, ◌+◌, ◌-◌, ◌*◌, ◌≤◌, ◌<◌, ◌≡◌, Bool, true, false, not, ◌&&◌, ◌||◌, eqb, ltb, leb}
use mathlib.Core.List.{List, [], ◌∷◌, Memᴰ}
use Rattle.time.specs.Limits.{epoch}
use Rattle.time.specs.Duration.{duration_seconds}
use Rattle.time.specs.declared.date_time.Kind.{Kind}
use Rattle.events.specs.declared.Ending.{Ending}
use Rattle.events.specs.declared.Repeat.{Repeat}
use Rattle.events.specs.declared.Event.{Event}

-- the UTC clock of a second. Both count seconds, the clock from 1 January of year 0: so what is before 1970 has a number too
abbrev pub utc_clock_of : ℕ → ℕ
utc_clock_of t = epoch + t

-- x is the clock of one of these seconds
unfoldable pub clock_among : ℕ → List ℕ → Bool
clock_among x [] = false
clock_among x (t ∷ ts) = eqb x (utc_clock_of t) || clock_among x ts

-- the seconds from one start to the next: INTERVAL times a day or a week
unfoldable pub step_of : Event → ℕ
step_of e = e.days * e.interval * 86400

-- instance k starts k steps after DTSTART, by the UTC clock
unfoldable pub start_of : Event → ℕ → ℕ
start_of e k = utc_clock_of e.start + k * step_of e

-- which k the rule has: k < COUNT, or a start no later than UNTIL, or all; without a rule 0 alone
unfoldable pub repeats : Repeat → ℕ → ℕ → Bool
repeats Repeat.Once s k = eqb k 0
repeats Repeat.Forever s k = true
repeats (Repeat.Count n) s k = ltb k n
repeats (Repeat.Until t) s k = leb s (utc_clock_of t)

-- the rule's instance k
unfoldable pub is_instance : Event → ℕ → Bool
is_instance e k = repeats e.repeat (start_of e k) k

-- instance k stands: the rule has it, and its start is none of the seconds that are taken away
unfoldable pub occurs : Event → List ℕ → ℕ → Bool
occurs e gone k = is_instance e k && not (clock_among (start_of e k) gone)

-- the same for the reader
abbrev pub HasInstance : Repeat → ℕ → ℕ → Type 0
HasInstance Repeat.Once s k = k ≡ 0
HasInstance Repeat.Forever s k = Unit {0}
HasInstance (Repeat.Count n) s k = k < n
HasInstance (Repeat.Until t) s k = s ≤ utc_clock_of t

-- instance k takes place, where these seconds are taken away
pub record TakesPlace (e : Event) (gone : List ℕ) (k : ℕ) : Type 0 where
  pub by_rule_holds : HasInstance e.repeat (start_of e k) k
  pub not_gone : (t : ℕ) → Memᴰ t gone → start_of e k ≡ utc_clock_of t → ⊥

-- starts are a day or more apart, so no instance from this number on starts by 2099
abbrev pub instances_at_most : ℕ
instances_at_most = 50000

-- the length: end minus start; the duration; or, with neither, a day for a DATE and 0 otherwise
unfoldable pub default_length : Kind → ℕ
default_length Kind.Utc = 0
default_length Kind.Floating = 0
default_length Kind.Date = 86400

unfoldable pub length_by : Event → Ending → ℕ
length_by e (Ending.End t) = t - e.start
length_by e (Ending.Lasts d) = duration_seconds d
length_by e Ending.None = default_length e.kind

-- zero length: an instance ends where it starts
unfoldable pub is_zero_length : Event → Bool
is_zero_length e = eqb (length_by e e.ending) 0

-- instance k ends its length after its start
unfoldable pub end_of : Event → ℕ → ℕ
end_of e k = start_of e k + length_by e e.ending
