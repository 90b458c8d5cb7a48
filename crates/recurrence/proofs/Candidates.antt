-- The search for an instance in range: from the first candidate on, which a division finds,
-- while instances start before the range's end.
use Prim.Native.Nat.{ℕ, ◌+◌, ◌-◌, ◌*◌, ◌/◌, ◌≤◌, ◌<◌}
use mathlib.Core.Path.{◌≡◌, refl, sym, ap, ◌∙◌}
use mathlib.Core.Bool.{Bool, true, false, cond, ◌&&◌}
use mathlib.Core.List.{List}
use native.Mathlib.Omega.{arith}
use native.Mathlib.Nat.{mul-le-mul_right, mul-le-mul_left, div-mul-le_self, lt-div-mul-add, add-mul}
use lib.Dec.{eqb, ltb}
use borrow.Author.Tests.{ltb-true, ltb-false, lt-ltb, eqb-true, eqb-false}
use Rattle.ascii.proofs.Bools.{and_left, and_right, and_both, clash, not_so}
use Rattle.time.specs.Limits.{last_second}
use Rattle.events.specs.declared.Event.{Event}
use Rattle.events.specs.Sizes.{EventSmall}
use Rattle.recurrence.specs.Instances.{utc_clock_of, length_by, is_zero_length, start_of, is_instance, instances_at_most, end_of, step_of}
use Rattle.recurrence.specs.Candidates.{first_at, span_of, starts_before, candidate_of, NoneBefore, NoneFrom, FirstCandidate, MoreCandidates}
use Rattle.recurrence.specs.TimeRange.{instance_in, EventIn, Decides}
use Rattle.recurrence.proofs.Instances.{length_small, starts_rise, instance_before, occurs_instance, step_long, starts_few, ltb_clock}
use Rattle.recurrence.proofs.TimeRange.{in_range_occurs, starts_early, ends_late}

cond_span : (l : ℕ) (t : Bool) → l ≤ last_second → cond t 1 l ≤ last_second
cond_span l true p = omega arith
cond_span l false p = p

pub span_small : {e : Event} → EventSmall e → span_of e ≤ last_second
unfolding span_of
span_small {e} h = cond_span _ (is_zero_length e) (length_small h)

span_by : (l : ℕ) (t : Bool) → eqb l 0 ≡ t → (0 < cond t 1 l) × (l ≤ cond t 1 l)
span_by l true q = (omega arith, omega (arith, eqb-true l 0 q))
span_by l false q = let n = eqb-false l 0 q in (omega arith, omega arith)

-- the span is a second at least
pub span_some : (e : Event) → 0 < span_of e
unfolding span_of is_zero_length
span_some e = (span_by (length_by e e.ending) _ refl).0

-- and no instance ends later than its span after its start
pub end_by_span : (e : Event) (k : ℕ) → end_of e k ≤ start_of e k + span_of e
unfolding end_of span_of is_zero_length
end_by_span e k = omega (arith, (span_by (length_by e e.ending) _ refl).1)

-- ---- the division

first_by : (x s d span a : ℕ) (t : Bool) → 0 < d → ltb a (s + span) ≡ t → x < cond t 0 ((a - (s + span)) / d + 1) → s + x * d + span ≤ a
first_by x s d span a true g q p = absurd (omega arith)
first_by x s d span a false g q p =
    let m : x * d ≤ (a - (s + span)) / d * d = mul-le-mul_right d (omega arith) in
    omega (arith, div-mul-le_self (a - (s + span)) d, ltb-false a (s + span) q)

-- whatever comes before the first ends at or before a
pub before_first : (x s d span a : ℕ) → 0 < d → x < first_at s d span a → s + x * d + span ≤ a
unfolding first_at
before_first x s d span a g p = first_by x s d span a _ g refl p

from_by_lem : (s d span a : ℕ) (t : Bool) → 0 < d → ltb a (s + span) ≡ t → a < s + cond t 0 ((a - (s + span)) / d + 1) * d + span
from_by_lem s d span a true g q = omega (arith, ltb-true a (s + span) q)
from_by_lem s d span a false g q =
    omega (arith, lt-div-mul-add {a = a - (s + span)} {b = d} g, ltb-false a (s + span) q, add-mul ((a - (s + span)) / d) 1 d)

-- the first ends after a
pub from_first : (s d span a : ℕ) → 0 < d → a < s + first_at s d span a * d + span
unfolding first_at
from_first s d span a g = from_by_lem s d span a _ g refl

few_by : (s d span a : ℕ) (t : Bool) → 86400 ≤ d → a ≤ last_second → cond t 0 ((a - (s + span)) / d + 1) ≤ 47482
few_by s d span a true g h = omega arith
few_by s d span a false g h =
    let m : (a - (s + span)) / d * 86400 ≤ (a - (s + span)) / d * d = mul-le-mul_left _ g in
    omega (arith, div-mul-le_self (a - (s + span)) d)

-- from 1970 to 2099 there are so many days
pub first_few : (s d span a : ℕ) → 86400 ≤ d → a ≤ last_second → first_at s d span a ≤ 47482
unfolding first_at
first_few s d span a g h = few_by s d span a (ltb a (s + span)) g h

-- ---- what the search promises

in_range_ends : (e : Event) (gone : List ℕ) (a b k : ℕ) → instance_in e gone a b k ≡ true → utc_clock_of a < start_of e k + span_of e
in_range_ends e gone a b k h = ends_late e gone a b k _ h (omega (arith, span_some e)) (end_by_span e k)

-- none before what the division finds is in range
pub before_candidate : (e : Event) (a : ℕ) → 0 < step_of e → NoneBefore e a (candidate_of e a)
unfolding start_of
before_candidate e a g gone b j p =
    not_so _ (λ q. omega (arith, in_range_ends e gone a b j q, before_first j e.start (step_of e) (span_of e) a g p))

-- the division finds where the search starts
pub first_is_candidate : {e : Event} {a : ℕ} → EventSmall e → a ≤ last_second → FirstCandidate e a (candidate_of e a)
first_is_candidate {e} {a} h p =
    record {
      candidate = refl;
      none_before = before_candidate e a (omega (arith, step_long h));
      few = omega (arith, first_few e.start (step_of e) (span_of e) a (step_long h) p);
    }

in_range_starts : (e : Event) (gone : List ℕ) (a b k : ℕ) → instance_in e gone a b k ≡ true → starts_before e b k ≡ true
unfolding starts_before
in_range_starts e gone a b k h = and_both (occurs_instance e gone k (in_range_occurs e gone a b k h)) (lt-ltb _ _ (starts_early e gone a b k h))

starts_before_too : (e : Event) (b j k : ℕ) → j ≤ k → starts_before e b k ≡ true → starts_before e b j ≡ true
unfolding starts_before
starts_before_too e b j k p h =
    and_both (instance_before e j k p (and_left (is_instance e k) _ h))
    (lt-ltb (start_of e j) (utc_clock_of b) (omega (arith, starts_rise e p, ltb-true (start_of e k) (utc_clock_of b) (and_right (is_instance e k) _ h))))

-- from the first that is not the rule's, or starts at b or later, none is in range
pub none_after : (e : Event) (b k : ℕ) → starts_before e b k ≡ false → NoneFrom e b k
none_after e b k h gone a j p = not_so _ (λ q. clash (starts_before_too e b k j p (in_range_starts e gone a b j q)) h)

-- the code's test tells whether the search goes on
pub more_by : {e : Event} {b k : ℕ} {t : Bool} (s : ℕ) → EventSmall e → b ≤ last_second → t ≡ is_instance e k → start_of e k ≡ utc_clock_of s → MoreCandidates e b k (t && ltb s b)
more_by {e} {b} {k} {t} s h p q r =
    record {
      none_from = λ n. none_after e b k (unfold starts_before in sym told ∙ n);
      few = λ y. starts_few k h (omega (arith, ltb-true (start_of e k) (utc_clock_of b) (and_right (is_instance e k) _ (sym told ∙ y))));
    }
  where
    told : (t && ltb s b) ≡ (is_instance e k && ltb (start_of e k) (utc_clock_of b))
    told =
        ap (λ (x : Bool). x && ltb s b) q
        ∙ ap (λ (x : Bool). is_instance e k && x) (sym (ltb_clock s b) ∙ ap (λ (n : ℕ). ltb n (utc_clock_of b)) (sym r))

-- an instance in a range up to 2099 is one of so many
pub in_range_few : {e : Event} (gone : List ℕ) (a b k : ℕ) → EventSmall e → b ≤ last_second → instance_in e gone a b k ≡ true → k < instances_at_most
in_range_few {e} gone a b k h p q = starts_few k h (omega (arith, starts_early e gone a b k q))

-- ---- what it decides

pub search_finds : {e : Event} {gone : List ℕ} {a b : ℕ} (k : ℕ) → instance_in e gone a b k ≡ true → Decides true (EventIn e gone a b)
search_finds k q = record { holds = λ _. record { number = k; passes = q }; fails = λ z _. clash refl z }

-- none before k and none from k on
pub search_ends : {e : Event} {gone : List ℕ} {a b : ℕ} (k : ℕ)
    → ((j : ℕ) → j < k → instance_in e gone a b j ≡ false) → ((j : ℕ) → k ≤ j → instance_in e gone a b j ≡ false) → Decides false (EventIn e gone a b)
search_ends {e} {gone} {a} {b} k s r =
    record { holds = λ z. clash z refl; fails = λ _ i. clash i.passes (none_at i.number (ltb i.number k) refl) }
  where
    none_at : (j : ℕ) (t : Bool) → ltb j k ≡ t → instance_in e gone a b j ≡ false
    none_at j true q = s j (ltb-true j k q)
    none_at j false q = r j (ltb-false j k q)
