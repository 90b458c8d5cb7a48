-- The search for instances of an event in a range: from the first candidate on, which a division finds, while they start before its end.
use Rattle.std.specs.Prelude.{ℕ, ◌+◌, ◌-◌, ◌/◌, ◌≤◌, ◌<◌, ◌≡◌, Bool, true, false, cond, ◌&&◌, List, ltb}
use Rattle.events.specs.declared.Event.{Event}
use Rattle.recurrence.specs.Instances.{utc_clock_of, step_of, start_of, is_instance, instances_at_most, length_by, is_zero_length}
use Rattle.recurrence.specs.TimeRange.{instance_in}

-- the least k with a < s + span + k * d (laws `from_first` and `before_first`)
unfoldable pub first_at : ℕ → ℕ → ℕ → ℕ → ℕ
first_at s d span a = cond (ltb a (s + span)) 0 ((a - (s + span)) / d + 1)

-- an instance of zero length is in range where one of a second is
unfoldable pub span_of : Event → ℕ
span_of e = cond (is_zero_length e) 1 (length_by e e.ending)

-- the number that the division finds
abbrev pub candidate_of : Event → ℕ → ℕ
candidate_of e a = first_at e.start (step_of e) (span_of e) a

-- it is the rule's, and starts before b
unfoldable pub starts_before : Event → ℕ → ℕ → Bool
starts_before e b k = is_instance e k && ltb (start_of e k) (utc_clock_of b)

-- ---- what the search promises, whatever seconds are taken away

-- none before k is in a range from a
abbrev pub NoneBefore : Event → ℕ → ℕ → Type 0
NoneBefore e a k = (gone : List ℕ) (b j : ℕ) → j < k → instance_in e gone a b j ≡ false

-- none from k on is in a range up to b
abbrev pub NoneFrom : Event → ℕ → ℕ → Type 0
NoneFrom e b k = (gone : List ℕ) (a j : ℕ) → k ≤ j → instance_in e gone a b j ≡ false

-- where it starts: at the number that the division finds
pub record FirstCandidate (e : Event) (a k : ℕ) : Type 0 where
  pub candidate : k ≡ candidate_of e a
  pub none_before : NoneBefore e a k
  pub few : k < instances_at_most

-- whether it goes on at k
pub record MoreCandidates (e : Event) (b k : ℕ) (t : Bool) : Type 0 where
  pub none_from : t ≡ false → NoneFrom e b k
  pub few : t ≡ true → k < instances_at_most
