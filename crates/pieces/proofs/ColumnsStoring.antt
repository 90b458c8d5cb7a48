-- Storing the piece of a period and the pieces of an event: instances that are not in range have none.
use Prim.Native.Nat.{ℕ, zero, suc, ◌+◌, ◌-◌, ◌*◌, ◌≤◌, ◌<◌, min, max}
use mathlib.Core.Path.{◌≡◌, refl, sym, ap, ◌∙◌, subst}
use mathlib.Core.Bool.{Bool, true, false, ◌&&◌}
use mathlib.Core.List.{List, [], ◌∷◌}
use native.Mathlib.Omega.{arith}
use lib.Dec.{ltb}
use lib.ListN.{length}
use lib.Seq.{sets}
use borrow.Author.Tests.{ltb-true, ltb-false}
use Rattle.ascii.proofs.Bools.{and_left, and_right, and_both}
use Rattle.time.specs.Limits.{last_second}
use Rattle.periods.specs.declared.BusyType.{BusyType}
use Rattle.periods.specs.BusyTypes.{report_place, is_busy, BusyPeriod}
use Rattle.events.specs.declared.Event.{Event}
use Rattle.recurrence.specs.Instances.{utc_clock_of, start_of, end_of, occurs, instances_at_most}
use Rattle.recurrence.specs.TimeRange.{instance_in}
use Rattle.recurrence.specs.Candidates.{FirstCandidate, MoreCandidates}
use Rattle.pieces.specs.BusyPeriods.{busy_period, second_of, list_below, instance_period, event_periods}
use Rattle.pieces.specs.Pieces.{clipped, is_piece, piece_of, pieces_of}
use Rattle.pieces.specs.Columns.{Stored}
use Rattle.pieces.proofs.BusyPeriods.{occurs_period, fails_period}
use Rattle.pieces.proofs.Pieces.{is_piece_holds, is_none, one_piece, pieces_of_none, pieces_of_append, out_of_range}
use Rattle.pieces.proofs.Columns.{stored_none, stored_full, stored_piece, stored_as, stored_then, stored_few, stored_long}

-- ---- one period

module _ {busy_time : Bool} {from to : ℕ} (busy : BusyType) (start end a b : ℕ) (e : busy_time ≡ is_busy busy) (f : from ≡ max a start) (t : to ≡ min b end) where
  tested : (busy_time && ltb from to) ≡ is_piece a b (busy_period busy start end)
  unfolding is_piece clipped
  tested =
      ap (λ (y : Bool). y && ltb from to) e
      ∙ ap (λ (i : ℕ). is_busy busy && ltb i to) f
      ∙ ap (λ (i : ℕ). is_busy busy && ltb (max a start) i) t

  clipped_numbers : (o : List ℕ) (i : ℕ) → sets o i (from ∷ to ∷ report_place busy ∷ []) ≡ sets o i (max a start ∷ min b end ∷ report_place busy ∷ [])
  clipped_numbers o i =
      ap (λ (x : ℕ). sets o i (x ∷ to ∷ report_place busy ∷ [])) f
      ∙ ap (λ (x : ℕ). sets o i (max a start ∷ x ∷ report_place busy ∷ [])) t

  module _ {o : List ℕ} {n : ℕ} where
    pub piece_stored : {o' : List ℕ} → (ltb n 513 && busy_time && ltb from to) ≡ true → o' ≡ sets o (3 * n) (from ∷ to ∷ report_place busy ∷ [])
        → Stored o n (piece_of a b (busy_period busy start end)) o' (n + 1)
    unfolding clipped
    piece_stored {o'} h q =
        let m = and_left (ltb n 513 && busy_time) _ h in
        let k = and_both (and_right (ltb n 513) _ m) (and_right (ltb n 513 && busy_time) _ h) in
        stored_as
        (stored_piece {o = o} {o' = o'} {n = n} {r = n + 1}
        (record { busy = busy; period = clipped a b (busy_period busy start end).period })
        (ltb-true n 513 (and_left (ltb n 513) _ m)) (q ∙ clipped_numbers o (3 * n)) refl)
        (sym (is_piece_holds a b (busy_period busy start end) (sym tested ∙ k)))

    pub piece_left : (ltb n 513 && busy_time && ltb from to) ≡ false → Stored o n (piece_of a b (busy_period busy start end)) o n
    piece_left h = go (ltb n 513) refl h
      where
        go : (y : Bool) → ltb n 513 ≡ y → (y && busy_time && ltb from to) ≡ false → Stored o n (piece_of a b (busy_period busy start end)) o n
        go true q k = stored_as (stored_none o n) (sym (is_none a b (busy_period busy start end) (sym tested ∙ k)))
        go false q k = stored_full o n _ (ltb-false n 513 q)

-- the numbers of a piece are small
pub piece_small : {to : ℕ} (busy_time : Bool) (from n b end : ℕ) → to ≡ min b end → b ≤ last_second → (ltb n 513 && busy_time && ltb from to) ≡ true
    → (n < 513) × (from ≤ last_second) × (to ≤ last_second)
piece_small {to} busy_time from n b end t l h =
    let m = and_left (ltb n 513 && busy_time) _ h in
    let r = ltb-true from to (and_right (ltb n 513 && busy_time) _ h) in
    let s : to ≤ last_second = omega (arith) in
    (ltb-true n 513 (and_left (ltb n 513) _ m), omega arith, s)

-- ---- one instance

-- the second of a second's clock
clock_second : {x : ℕ} (s : ℕ) → x ≡ utc_clock_of s → s ≡ second_of x
clock_second s q = omega (arith, q)

module _ (e : Event) (gone : List ℕ) (k a b : ℕ) {o : List ℕ} {n : ℕ} {t : Bool} (h : t ≡ occurs e gone k) where
  pub instance_stored : {o' : List ℕ} {r : ℕ} (s f : ℕ) → t ≡ true → start_of e k ≡ utc_clock_of s → end_of e k ≡ utc_clock_of f
      → Stored o n (piece_of a b (busy_period e.busy s f)) o' r → Stored o n (pieces_of a b (instance_period e gone k)) o' r
  instance_stored s f q x y m =
      stored_as m
      (ap (λ (i : ℕ). piece_of a b (busy_period e.busy i f)) (clock_second s x)
      ∙ ap (λ (i : ℕ). piece_of a b (busy_period e.busy (second_of (start_of e k)) i)) (clock_second f y)
      ∙ sym (ap (pieces_of a b) (occurs_period e gone k (sym h ∙ q)) ∙ one_piece a b _))

  pub instance_left : t ≡ false → Stored o n (pieces_of a b (instance_period e gone k)) o n
  instance_left q = stored_as (stored_none o n) (sym (ap (pieces_of a b) (fails_period e gone k (sym h ∙ q)) ∙ pieces_of_none a b))

-- ---- an event

silent : (e : Event) (gone : List ℕ) (a b k : ℕ) (o : List ℕ) (n : ℕ) → instance_in e gone a b k ≡ false → Stored o n (pieces_of a b (instance_period e gone k)) o n
silent e gone a b k o n h = stored_as (stored_none o n) (sym (out_of_range e gone a b k h))

module _ (a b : ℕ) (f : ℕ → List BusyPeriod) {o₀ : List ℕ} {first : ℕ} where
  -- the pieces of one number more
  below_then : {o o' : List ℕ} {n r : ℕ} (k : ℕ) → Stored o₀ first (pieces_of a b (list_below k f)) o n → Stored o n (pieces_of a b (f k)) o' r
      → Stored o₀ first (pieces_of a b (list_below (suc k) f)) o' r
  unfolding list_below
  below_then k h m = stored_as (stored_then h m) (sym (pieces_of_append a b (list_below k f) (f k)))

  -- numbers that add nothing
  below_over : {o : List ℕ} {n : ℕ} (k j : ℕ) → Stored o₀ first (pieces_of a b (list_below k f)) o n
      → ((i : ℕ) → k ≤ i → i < k + j → Stored o n (pieces_of a b (f i)) o n) → Stored o₀ first (pieces_of a b (list_below (k + j) f)) o n
  below_over {o} {n} k zero h s = subst (λ (i : ℕ). Stored o₀ first (pieces_of a b (list_below i f)) o n) (let z : k ≡ k + 0 = omega arith in z) h
  below_over {o} {n} k (suc j) h s =
      subst (λ (i : ℕ). Stored o₀ first (pieces_of a b (list_below i f)) o n) (let z : suc (k + j) ≡ k + suc j = omega arith in z)
      (below_then (k + j) (below_over k j h (λ i p q. s i p (omega arith))) (s (k + j) (omega arith) (omega arith)))

below_none : (a b : ℕ) (f : ℕ → List BusyPeriod) (o : List ℕ) (n : ℕ) → Stored o n (pieces_of a b (list_below 0 f)) o n
unfolding list_below
below_none a b f o n = stored_as (stored_none o n) (sym (pieces_of_none a b))

-- the pieces of the instances below k are stored
pub record Walked (e : Event) (gone : List ℕ) (a b : ℕ) (o₀ : List ℕ) (first : ℕ) (o : List ℕ) (n k : ℕ) : Type 0 where
  pub few : k ≤ instances_at_most
  pub so_far : Stored o₀ first (pieces_of a b (list_below k (instance_period e gone))) o n

pub walked_start : (e : Event) (gone : List ℕ) (a b : ℕ) (o : List ℕ) (first k : ℕ) → FirstCandidate e a k → Walked e gone a b o first o first k
walked_start e gone a b o first k h =
    record {
      few = omega (arith, h.few);
      so_far =
          subst (λ (i : ℕ). Stored o first (pieces_of a b (list_below i (instance_period e gone))) o first) (let z : 0 + k ≡ k = omega arith in z)
          (below_over a b (instance_period e gone) 0 k (below_none a b (instance_period e gone) o first)
          (λ i p q. silent e gone a b i o first (h.none_before gone b i (omega arith))));
    }

module _ {e : Event} {gone : List ℕ} {a b : ℕ} {o₀ : List ℕ} {first : ℕ} {o : List ℕ} {n k : ℕ} (w : Walked e gone a b o₀ first o n k) where
  pub walked_more : {o' : List ℕ} {r : ℕ} → k < instances_at_most → Stored o n (pieces_of a b (instance_period e gone k)) o' r → Walked e gone a b o₀ first o' r (k + 1)
  walked_more {o'} {r} h m =
      record {
        few = omega arith;
        so_far =
            subst (λ (i : ℕ). Stored o₀ first (pieces_of a b (list_below i (instance_period e gone))) o' r) (let z : suc k ≡ k + 1 = omega arith in z)
            (below_then a b (instance_period e gone) k w.so_far m);
      }

  to_the_end : ((i : ℕ) → k ≤ i → Stored o n (pieces_of a b (instance_period e gone i)) o n) → Stored o₀ first (pieces_of a b (event_periods e gone)) o n
  unfolding event_periods
  to_the_end s =
      subst (λ (i : ℕ). Stored o₀ first (pieces_of a b (list_below i (instance_period e gone))) o n)
      (let z : k + (instances_at_most - k) ≡ instances_at_most = omega (arith, w.few) in z)
      (below_over a b (instance_period e gone) k (instances_at_most - k) w.so_far (λ i p q. s i p))

  -- no room is left, or no later instance is in range
  pub walked_end : {t : Bool} → MoreCandidates e b k t → (ltb n 513 && t) ≡ false → Stored o₀ first (pieces_of a b (event_periods e gone)) o n
  walked_end {t} x h = go (ltb n 513) refl h
    where
      go : (y : Bool) → ltb n 513 ≡ y → (y && t) ≡ false → Stored o₀ first (pieces_of a b (event_periods e gone)) o n
      go true z m = to_the_end (λ i p. silent e gone a b i o n (x.none_from m gone a i p))
      go false z m = to_the_end (λ i p. stored_full o n _ (ltb-false n 513 z))

  pub walked_few : first ≤ 513 → n ≤ 513
  walked_few = stored_few w.so_far

  pub walked_long : length o ≡ length o₀
  walked_long = stored_long w.so_far

pub unstored : {o : List ℕ} {n : ℕ} {ps : List BusyPeriod} → ps ≡ [] → Stored o n ps o n
unstored {o} {n} e = stored_as (stored_none o n) (sym e)

-- while the walk goes on, instances are left
pub walked_on : {e : Event} {b k : ℕ} {t : Bool} (n : ℕ) → MoreCandidates e b k t → (ltb n 513 && t) ≡ true → k < instances_at_most
walked_on n x m = x.few (and_right (ltb n 513) _ m)
