-- An instance in range starts before its end and ends after its start, and one that covers a second of it is in range;
-- lists of periods, and what a test that decides a statement says.
use Prim.Native.Nat.{ℕ, ◌≤◌, ◌<◌}
use mathlib.Core.Path.{◌≡◌, refl, sym, ap, ◌∙◌}
use mathlib.Core.Bool.{Bool, true, false, cond, ◌&&◌, ◌||◌, or_assoc}
use mathlib.Core.List.{List, [], ◌∷◌, ◌++◌}
use mathlib.Core.Logic.{◌↔◌}
use native.Mathlib.Omega.{arith}
use lib.Dec.{eqb, ltb, leb}
use borrow.Author.Tests.{ltb-true, leb-true, lt-ltb, le-leb, eqb-true, eqb-false, eq-eqb, ne_eqb}
use Rattle.ascii.proofs.Bools.{and_left, and_right, and_both}
use Rattle.periods.specs.declared.Period.{Period}
use Rattle.events.specs.declared.Event.{Event}
use Rattle.recurrence.specs.Instances.{utc_clock_of, start_of, end_of, length_by, is_zero_length, occurs}
use Rattle.recurrence.specs.TimeRange.{overlaps, ends_after, instance_in, between_in, periods_overlap, Overlaps, BetweenIn, InstanceIn, Decides}
use Rattle.recurrence.proofs.Instances.{zero_length_end, takes_place_iff}

-- it stands
pub in_range_occurs : (e : Event) (gone : List ℕ) (a b k : ℕ) → instance_in e gone a b k ≡ true → occurs e gone k ≡ true
unfolding instance_in
in_range_occurs e gone a b k h = and_left (occurs e gone k) _ (and_left (occurs e gone k && ends_after e a k) _ h)

-- it starts before the range's end
pub starts_early : (e : Event) (gone : List ℕ) (a b k : ℕ) → instance_in e gone a b k ≡ true → start_of e k < utc_clock_of b
unfolding instance_in
starts_early e gone a b k h = ltb-true (start_of e k) _ (and_right (occurs e gone k && ends_after e a k) _ h)

ends_by : (a s t n : ℕ) (z : Bool) → cond z (leb a s) (ltb a t) ≡ true → s < n → t ≤ n → a < n
ends_by a s t n true h p q = omega (arith, leb-true a s h)
ends_by a s t n false h p q = omega (arith, ltb-true a t h)

-- and what is past its start and not before its end is past the range's start
pub ends_late : (e : Event) (gone : List ℕ) (a b k n : ℕ) → instance_in e gone a b k ≡ true → start_of e k < n → end_of e k ≤ n → utc_clock_of a < n
unfolding instance_in ends_after
ends_late e gone a b k n h p q =
    ends_by (utc_clock_of a) (start_of e k) (end_of e k) n (is_zero_length e) (and_right (occurs e gone k) _ (and_left (occurs e gone k && ends_after e a k) _ h)) p q

covering_ends : (e : Event) (a k : ℕ) → utc_clock_of a < end_of e k → start_of e k < end_of e k → ends_after e a k ≡ true
unfolding ends_after
covering_ends e a k p q = go (is_zero_length e) refl
  where
    go : (z : Bool) → is_zero_length e ≡ z → cond z (leb (utc_clock_of a) (start_of e k)) (ltb (utc_clock_of a) (end_of e k)) ≡ true
    go true h = absurd (omega (arith, zero_length_end e k h))
    go false h = lt-ltb _ (end_of e k) p

-- an instance that covers a second of the range is in range
pub covering_in : (e : Event) (gone : List ℕ) (a b k x : ℕ) → occurs e gone k ≡ true → start_of e k ≤ utc_clock_of x → utc_clock_of x < end_of e k → a ≤ x → x < b → instance_in e gone a b k ≡ true
unfolding instance_in
covering_in e gone a b k x o f t p q = and_both (and_both o (covering_ends e a k (omega arith) (omega arith))) (lt-ltb (start_of e k) _ (omega arith))

-- two lists after each other: one or the other
pub periods_append : (a b : ℕ) (ps qs : List Period) → periods_overlap a b (ps ++ qs) ≡ (periods_overlap a b ps || periods_overlap a b qs)
unfolding periods_overlap
periods_append a b [] qs = refl
periods_append a b (p ∷ ps) qs =
    ap (λ (t : Bool). overlaps a b p.start p.end || t) (periods_append a b ps qs)
    ∙ sym (or_assoc (overlaps a b p.start p.end) (periods_overlap a b ps) (periods_overlap a b qs))

-- two Bools that decide one statement are equal
pub decided_once : {P : Type 0} (x y : Bool) → Decides x P → Decides y P → x ≡ y
decided_once true true d f = refl
decided_once true false d f = absurd (f.fails refl (d.holds refl))
decided_once false true d f = absurd (d.fails refl (f.holds refl))
decided_once false false d f = refl

-- ---- for the reader

pub overlaps_iff : (a b s t : ℕ) → (overlaps a b s t ≡ true) ↔ Overlaps a b s t
unfolding overlaps
overlaps_iff a b s t = (λ e. says (eqb s t) refl e, tests)
  where
    says : (z : Bool) → eqb s t ≡ z → cond z (leb a s && ltb s b) (ltb a t && ltb s b) ≡ true → Overlaps a b s t
    says true q e =
        Overlaps.no_length (eqb-true s t q) (leb-true a s (and_left (leb a s) (ltb s b) e)) (ltb-true s b (and_right (leb a s) (ltb s b) e))
    says false q e =
        Overlaps.with_length (eqb-false s t q) (ltb-true a t (and_left (ltb a t) (ltb s b) e)) (ltb-true s b (and_right (ltb a t) (ltb s b) e))

    tests : Overlaps a b s t → cond (eqb s t) (leb a s && ltb s b) (ltb a t && ltb s b) ≡ true
    tests (Overlaps.with_length n f g) =
        ap (λ (z : Bool). cond z (leb a s && ltb s b) (ltb a t && ltb s b)) (ne_eqb s t n) ∙ and_both (lt-ltb a t f) (lt-ltb s b g)
    tests (Overlaps.no_length e f g) =
        ap (λ (z : Bool). cond z (leb a s && ltb s b) (ltb a t && ltb s b)) (eq-eqb s t e) ∙ and_both (le-leb a s f) (lt-ltb s b g)

pub between_iff : (a b s t : ℕ) → (between_in a b s t ≡ true) ↔ BetweenIn a b s t
unfolding between_in
between_iff a b s t = (
  λ h.
      record {
        ends_at_or_after = leb-true a t (and_left (leb a t) (ltb s b) h);
        starts_before_holds = ltb-true s b (and_right (leb a t) (ltb s b) h);
      },
  λ i. and_both (le-leb a t i.ends_at_or_after) (lt-ltb s b i.starts_before_holds),
)

module _ (e : Event) (a k : ℕ) where
  ends_says : ends_after e a k ≡ true → ((length_by e e.ending ≡ 0 → ⊥) → utc_clock_of a < end_of e k) × (length_by e e.ending ≡ 0 → utc_clock_of a ≤ start_of e k)
  unfolding ends_after is_zero_length
  ends_says h = go (eqb (length_by e e.ending) 0) refl h
    where
      go : (z : Bool) → eqb (length_by e e.ending) 0 ≡ z → cond z (leb (utc_clock_of a) (start_of e k)) (ltb (utc_clock_of a) (end_of e k)) ≡ true
          → ((length_by e e.ending ≡ 0 → ⊥) → utc_clock_of a < end_of e k) × (length_by e e.ending ≡ 0 → utc_clock_of a ≤ start_of e k)
      go true q h = (λ n. absurd (n (eqb-true _ 0 q)), λ z. leb-true _ (start_of e k) h)
      go false q h = (λ n. ltb-true _ (end_of e k) h, λ z. absurd (eqb-false _ 0 q z))

  ends_tests : ((length_by e e.ending ≡ 0 → ⊥) → utc_clock_of a < end_of e k) → (length_by e e.ending ≡ 0 → utc_clock_of a ≤ start_of e k) → ends_after e a k ≡ true
  unfolding ends_after is_zero_length
  ends_tests f g = go (eqb (length_by e e.ending) 0) refl
    where
      go : (z : Bool) → eqb (length_by e e.ending) 0 ≡ z → cond z (leb (utc_clock_of a) (start_of e k)) (ltb (utc_clock_of a) (end_of e k)) ≡ true
      go true q = le-leb _ (start_of e k) (g (eqb-true _ 0 q))
      go false q = lt-ltb _ (end_of e k) (f (eqb-false _ 0 q))

pub instance_in_iff : (e : Event) (gone : List ℕ) (a b k : ℕ) → (instance_in e gone a b k ≡ true) ↔ InstanceIn e gone a b k
unfolding instance_in
instance_in_iff e gone a b k = (
  λ h.
      let ends = ends_says e a k (and_right (occurs e gone k) (ends_after e a k) (and_left (occurs e gone k && ends_after e a k) (ltb (start_of e k) (utc_clock_of b)) h)) in
      record {
        takes_place = (takes_place_iff e gone k).0 (in_range_occurs e gone a b k h);
        starts_before_holds = starts_early e gone a b k h;
        ends_after_holds = ends.0;
        starts_within = ends.1;
      },
  λ i.
      and_both (and_both ((takes_place_iff e gone k).1 i.takes_place) (ends_tests e a k i.ends_after_holds i.starts_within)) (lt-ltb (start_of e k) _ i.starts_before_holds),
)
