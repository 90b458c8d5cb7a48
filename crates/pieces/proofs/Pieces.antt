-- Clipping busy periods to a range: what the pieces cover, where they stand, and how many there are; which instances and events have none.
use Prim.Native.Nat.{ℕ, zero, suc, ◌+◌, ◌≤◌, ◌<◌, min, max}
use mathlib.Core.Path.{◌≡◌, refl, sym, ap, ◌∙◌, subst}
use mathlib.Core.Bool.{Bool, true, false, not, ◌&&◌, ◌||◌, and-false, or-false}
use mathlib.Core.Logic.{◌↔◌, ◌⊎◌, inl, inr}
use mathlib.Core.List.Memᴰ
use mathlib.Core.List.{List, [], ◌∷◌, ◌++◌, append_assoc, append-nil, Memᴰ}
use native.Mathlib.Omega.{arith}
use lib.Dec.{ltb}
use lib.ListN.{length}
use borrow.Author.Tests.{ltb-true, lt-ltb, not-false}
use Rattle.time.specs.Limits.{last_second}
use Rattle.ascii.proofs.Bools.{and_left, and_right, and_both, clash, not_so}
use Rattle.periods.specs.declared.Period.{Period}
use Rattle.periods.specs.declared.BusyType.{BusyType}
use Rattle.periods.specs.Periods.{period, second_in}
use Rattle.periods.proofs.Periods.{second_in_ends, second_in_true}
use Rattle.periods.specs.BusyTypes.{is_busy, same_busy, BusyPeriod}
use Rattle.periods.proofs.BusyTypes.{same_busy_iff}
use Rattle.events.specs.Events.{Entry, event}
use Rattle.events.specs.Sizes.{EventsSmall}
use Rattle.events.specs.declared.Event.{Event}
use Rattle.recurrence.specs.Instances.{start_of, end_of, occurs, is_zero_length, instances_at_most}
use Rattle.recurrence.specs.TimeRange.{instance_in}
use Rattle.recurrence.proofs.Instances.{zero_length_end, each_other}
use Rattle.recurrence.proofs.TimeRange.{covering_in}
use Rattle.pieces.specs.BusyPeriods.{busy_period, second_of, instance_time, list_below, instance_period, event_periods, stated_periods, instance_periods, gathered, busy_periods}
use Rattle.pieces.specs.Covered.{of_type, covered_by, covered}
use Rattle.pieces.specs.Pieces.{clipped, is_piece, piece_of, pieces_of, busy_pieces, PieceIs}
use Rattle.pieces.proofs.BusyPeriods.{chosen, left_out, occurs_period, fails_period, listed_is, is_listed}
use Rattle.pieces.proofs.Covered.{covers_none, covered_by_append, hits, hits_first, types_count}

-- ---- one period, or none

abbrev pub piece_in : ℕ → ℕ → BusyPeriod → BusyPeriod
piece_in a e p = record { busy = p.busy; period = clipped a e p.period }

module _ (a e : ℕ) (p : BusyPeriod) where
  pub is_piece_holds : is_piece a e p ≡ true → piece_of a e p ≡ piece_in a e p ∷ []
  unfolding piece_of
  is_piece_holds h = chosen (is_piece a e p) (piece_in a e p) h

  pub is_none : is_piece a e p ≡ false → piece_of a e p ≡ []
  unfolding piece_of
  is_none h = left_out (is_piece a e p) (piece_in a e p) h

  pub one_piece : pieces_of a e (p ∷ []) ≡ piece_of a e p
  unfolding pieces_of
  one_piece = append-nil (piece_of a e p)

pub pieces_of_none : (a e : ℕ) → pieces_of a e [] ≡ []
unfolding pieces_of
pieces_of_none a e = refl

pub pieces_of_append : (a e : ℕ) (ps qs : List BusyPeriod) → pieces_of a e (ps ++ qs) ≡ pieces_of a e ps ++ pieces_of a e qs
unfolding pieces_of
pieces_of_append a e [] qs = refl
pieces_of_append a e (p ∷ ps) qs =
    ap (λ (l : List BusyPeriod). piece_of a e p ++ l) (pieces_of_append a e ps qs) ∙ sym (append_assoc (piece_of a e p) (pieces_of a e ps) (pieces_of a e qs))

-- ---- what the pieces cover

min_same : (e t : ℕ) → t ≤ e → min e t ≡ t
min_same e t p = omega arith

-- a second of the part is one of the range and of the period
clipped_second_in : (a e x s t : ℕ) → second_in (max a s) (min e t) x ≡ (second_in a e x && second_in s t x)
clipped_second_in a e x s t =
    each_other _ _
    (λ h.
    let k = second_in_ends _ _ x h in
    and_both (second_in_true a e x (omega (arith, k.0)) (omega (arith, k.1)))
    (second_in_true s t x (omega (arith, k.0)) (omega (arith, k.1))))
    (λ h.
    let k = second_in_ends a e x (and_left (second_in a e x) _ h) in
    let m = second_in_ends s t x (and_right (second_in a e x) _ h) in
    second_in_true _ _ x (omega (arith, k.0, m.0)) (omega (arith, k.1, m.1)))

same_is_busy : (b c : BusyType) → is_busy b ≡ true → same_busy b c ≡ true → is_busy c ≡ true
same_is_busy b c h e = ap is_busy (sym ((same_busy_iff b c).0 e)) ∙ h

module _ (b : BusyType) (u : is_busy b ≡ true) (a e x : ℕ) where
  -- what is no piece covers no second of the range
  no_piece_holds : (p : BusyPeriod) → is_piece a e p ≡ false → (second_in a e x && hits b p x) ≡ false
  unfolding is_piece clipped hits
  no_piece_holds p z =
      not_so _
      (λ h.
      let s = p.period.start in
      let t = p.period.end in
      let y = and_right (second_in a e x) _ h in
      let k = second_in_ends a e x (and_left (second_in a e x) _ h) in
      let m = second_in_ends s t x (and_right (same_busy b p.busy) _ y) in
      let w : max a s < min e t = omega (arith, k.0, m.0, k.1, m.1) in
      clash (and_both (same_is_busy b p.busy u (and_left (same_busy b p.busy) _ y)) (lt-ltb (max a s) (min e t) w)) z)

  clipped_hits : (p : BusyPeriod) → hits b (piece_in a e p) x ≡ (second_in a e x && hits b p x)
  unfolding hits clipped
  clipped_hits p =
      ap (λ (t : Bool). same_busy b p.busy && t) (clipped_second_in a e x p.period.start p.period.end)
      ∙ swap (same_busy b p.busy) (second_in a e x)
    where
      swap : (f g : Bool) → (f && (g && second_in p.period.start p.period.end x)) ≡ (g && (f && second_in p.period.start p.period.end x))
      swap true true = refl
      swap true false = refl
      swap false true = refl
      swap false false = refl

  one_covers : (c : BusyPeriod) → covered_by b (c ∷ []) x ≡ hits b c x
  one_covers c = hits_first b c [] x ∙ ap (λ (t : Bool). hits b c x || t) (covers_none b x) ∙ or-false (hits b c x)

  piece_covers : (p : BusyPeriod) → covered_by b (piece_of a e p) x ≡ (second_in a e x && hits b p x)
  piece_covers p = go (is_piece a e p) refl
    where
      go : (t : Bool) → is_piece a e p ≡ t → covered_by b (piece_of a e p) x ≡ (second_in a e x && hits b p x)
      go true q = ap (λ (l : List BusyPeriod). covered_by b l x) (is_piece_holds a e p q) ∙ one_covers (piece_in a e p) ∙ clipped_hits p
      go false q = ap (λ (l : List BusyPeriod). covered_by b l x) (is_none a e p q) ∙ covers_none b x ∙ sym (no_piece_holds p q)

  both_and : (g f h : Bool) → (g && f || g && h) ≡ (g && (f || h))
  both_and true f h = refl
  both_and false f h = refl

  -- the pieces cover what the periods cover in the range
  pub clipped_covers : (ps : List BusyPeriod) → covered_by b (pieces_of a e ps) x ≡ (second_in a e x && covered_by b ps x)
  unfolding pieces_of
  clipped_covers [] = covers_none b x ∙ sym (ap (λ (t : Bool). second_in a e x && t) (covers_none b x) ∙ and-false (second_in a e x))
  clipped_covers (p ∷ ps) =
      covered_by_append b x (piece_of a e p) (pieces_of a e ps)
      ∙ ap (λ (t : Bool). t || covered_by b (pieces_of a e ps) x) (piece_covers p)
      ∙ ap (λ (t : Bool). second_in a e x && hits b p x || t) (clipped_covers ps)
      ∙ both_and (second_in a e x) (hits b p x) (covered_by b ps x)
      ∙ ap (λ (t : Bool). second_in a e x && t) (sym (hits_first b p ps x))

  -- so do those of a calendar
  pub busy_pieces_cover : (es : List Entry) → covered_by b (busy_pieces a e es) x ≡ (second_in a e x && covered b es x)
  unfolding busy_pieces covered
  busy_pieces_cover es = clipped_covers (busy_periods es)

-- ---- where a piece stands

-- busy time of a second at least, inside the range
pub record Inside (a e : ℕ) (p : BusyPeriod) : Type 0 where
  pub is_busy_holds : is_busy p.busy ≡ true
  pub from : a ≤ p.period.start
  pub rising : p.period.start < p.period.end
  pub to : p.period.end ≤ e

module _ (a e : ℕ) where
  piece_inside : (p : BusyPeriod) → is_piece a e p ≡ true → Inside a e (piece_in a e p)
  unfolding is_piece clipped
  piece_inside p h =
      record {
        is_busy_holds = and_left (is_busy p.busy) _ h;
        from = omega arith;
        rising = ltb-true _ _ (and_right (is_busy p.busy) _ h);
        to = omega arith;
      }

  listed_inside : (p : BusyPeriod) {q : BusyPeriod} → Memᴰ q (piece_of a e p) → Inside a e q
  listed_inside p {q} m = go (is_piece a e p) refl
    where
      go : (t : Bool) → is_piece a e p ≡ t → Inside a e q
      go true h = subst (Inside a e) (sym (Memᴰ.eq_of_singleton (subst (λ (l : List BusyPeriod). Memᴰ q l) (is_piece_holds a e p h) m))) (piece_inside p h)
      go false h = absurd (Memᴰ.not-nil (subst (λ (l : List BusyPeriod). Memᴰ q l) (is_none a e p h) m))

  pub pieces_inside : (ps : List BusyPeriod) {p : BusyPeriod} → Memᴰ p (pieces_of a e ps) → Inside a e p
  unfolding pieces_of
  pieces_inside [] m = absurd (Memᴰ.not-nil m)
  pieces_inside (q ∷ ps) {p} m = go (pieces_inside ps) (Memᴰ.append_cases (piece_of a e q) m)
    where
      go : (Memᴰ p (pieces_of a e ps) → Inside a e p) → Memᴰ p (piece_of a e q) ⊎ Memᴰ p (pieces_of a e ps) → Inside a e p
      go f (inl d) = listed_inside q d
      go f (inr d) = f d

  -- a period inside the range is its own piece
  clipped_same : (s t : ℕ) → a ≤ s → t ≤ e → clipped a e (period s t) ≡ period s t
  unfolding clipped
  clipped_same s t p q =
      let x : max a s ≡ s = omega arith in
      ap (λ (n : ℕ). period n (min e t)) x ∙ ap (λ (n : ℕ). period s n) (min_same e t q)

  pub piece_same : (p : BusyPeriod) → Inside a e p → piece_of a e p ≡ p ∷ []
  unfolding is_piece
  piece_same p i =
      let c = clipped_same p.period.start p.period.end i.from i.to in
      is_piece_holds a e p
      (and_both i.is_busy_holds (ap (λ (w : Period). ltb w.start w.end) c ∙ lt-ltb p.period.start p.period.end i.rising))
      ∙ ap (λ (w : Period). (record { busy = p.busy; period = w }) ∷ []) c

  pub pieces_of_same : (ps : List BusyPeriod) → ((p : BusyPeriod) → Memᴰ p ps → Inside a e p) → pieces_of a e ps ≡ ps
  unfolding pieces_of
  pieces_of_same [] f = refl
  pieces_of_same (p ∷ ps) f =
      ap (λ (l : List BusyPeriod). l ++ pieces_of a e ps) (piece_same p (f p (Memᴰ.head refl)))
      ∙ ap (λ (l : List BusyPeriod). p ∷ l) (pieces_of_same ps (λ q m. f q (Memᴰ.tail m)))

-- ---- how many

pub pieces_count : (a e : ℕ) (ps : List BusyPeriod)
    → length (pieces_of a e ps)
    ≡ length (of_type BusyType.Busy (pieces_of a e ps)) + length (of_type BusyType.Tentative (pieces_of a e ps)) + length (of_type BusyType.Unavailable (pieces_of a e ps))
pieces_count a e ps = types_count (pieces_of a e ps) (λ p m. (pieces_inside a e ps m).is_busy_holds)

-- ---- instances and events without a piece

-- an instance whose period is no piece
instance_none : (e : Event) (gone : List ℕ) (a b k : ℕ) → (occurs e gone k ≡ true → is_piece a b (instance_time e k) ≡ false)
    → pieces_of a b (instance_period e gone k) ≡ []
instance_none e gone a b k h = go (occurs e gone k) refl
  where
    go : (t : Bool) → occurs e gone k ≡ t → pieces_of a b (instance_period e gone k) ≡ []
    go true q = ap (pieces_of a b) (occurs_period e gone k q) ∙ one_piece a b _ ∙ is_none a b _ (h q)
    go false q = ap (pieces_of a b) (fails_period e gone k q) ∙ pieces_of_none a b

out_of_range_piece : (e : Event) (gone : List ℕ) (a b k : ℕ) → instance_in e gone a b k ≡ false → occurs e gone k ≡ true → is_piece a b (instance_time e k) ≡ false
unfolding is_piece clipped
out_of_range_piece e gone a b k h o =
    let s = second_of (start_of e k) in
    let t = second_of (end_of e k) in
    not_so _
    (λ q.
    let m = ltb-true (max a s) (min b t) (and_right (is_busy e.busy) _ q) in
    clash (covering_in e gone a b k (max a s) o (omega arith) (omega arith) (omega arith) (omega arith)) h)

-- an instance that is not in range
pub out_of_range : (e : Event) (gone : List ℕ) (a b k : ℕ) → instance_in e gone a b k ≡ false → pieces_of a b (instance_period e gone k) ≡ []
out_of_range e gone a b k h = instance_none e gone a b k (out_of_range_piece e gone a b k h)

-- free time is no piece
free_none : (a b s t : ℕ) (y : BusyType) → is_busy y ≡ false → is_piece a b (busy_period y s t) ≡ false
unfolding is_piece
free_none a b s t y h = rw h

-- nor is what ends where it starts
empty_none : (a b s t : ℕ) (y : BusyType) → t ≡ s → is_piece a b (busy_period y s t) ≡ false
unfolding is_piece clipped
empty_none a b s t y q = not_so _ (λ h. omega (arith, ltb-true (max a s) (min b t) (and_right (is_busy y) _ h)))

module _ (e : Event) (gone : List ℕ) (a b : ℕ) (h : (k : ℕ) → is_piece a b (instance_time e k) ≡ false) where
  instances_none : (n : ℕ) → pieces_of a b (list_below n (instance_period e gone)) ≡ []
  unfolding list_below
  instances_none zero = pieces_of_none a b
  instances_none (suc n) =
      pieces_of_append a b (list_below n (instance_period e gone)) (instance_period e gone n)
      ∙ ap (λ (l : List BusyPeriod). l ++ pieces_of a b (instance_period e gone n)) (instances_none n)
      ∙ instance_none e gone a b n (λ o. h n)

  event_none : pieces_of a b (event_periods e gone) ≡ []
  unfolding event_periods
  event_none = instances_none instances_at_most

pub free_event : (e : Event) (gone : List ℕ) → is_busy e.busy ≡ false → (a b : ℕ) → pieces_of a b (event_periods e gone) ≡ []
free_event e gone h a b = event_none e gone a b (λ k. free_none a b (second_of (start_of e k)) (second_of (end_of e k)) e.busy h)

pub empty_event : (e : Event) (gone : List ℕ) → is_zero_length e ≡ true → (a b : ℕ) → pieces_of a b (event_periods e gone) ≡ []
empty_event e gone h a b = event_none e gone a b (λ k. empty_none a b (second_of (start_of e k)) (second_of (end_of e k)) e.busy (ap second_of (zero_length_end e k h)))

-- such an event by itself, in any range
pub no_pieces : (a b : ℕ) (e : Event) (gone : List ℕ) → is_zero_length e ≡ true → busy_pieces a b (event e gone ∷ []) ≡ []
unfolding busy_pieces busy_periods gathered stated_periods instance_periods
no_pieces a b e gone h = ap (pieces_of a b) (append-nil (event_periods e gone)) ∙ empty_event e gone h a b

-- by the test that the code makes of its type and of its length
pub no_event_pieces : (e : Event) {p z : Bool} → p ≡ is_busy e.busy → z ≡ is_zero_length e → (p && not z) ≡ false
    → (gone : List ℕ) (a b : ℕ) → pieces_of a b (event_periods e gone) ≡ []
no_event_pieces e {p} {z} q l h = go p refl h
  where
    go : (t : Bool) → p ≡ t → (t && not z) ≡ false → (gone : List ℕ) (a b : ℕ) → pieces_of a b (event_periods e gone) ≡ []
    go true u v gone = empty_event e gone (sym l ∙ not-false z v)
    go false u v gone = free_event e gone (sym q ∙ u)

-- ---- for the reader: which pieces there are

-- a busy period that covers a second of the range has a piece, and no other has
module _ (a e : ℕ) where
  piece_second : (q : BusyPeriod) → is_piece a e q ≡ true
      → (is_busy q.busy ≡ true) × (a ≤ max a q.period.start) × (max a q.period.start < min e q.period.end)
  unfolding is_piece clipped
  piece_second q h =
      (and_left (is_busy q.busy) _ h, omega arith, ltb-true (max a q.period.start) (min e q.period.end) (and_right (is_busy q.busy) _ h))

  second_piece : (q : BusyPeriod) (x : ℕ) → is_busy q.busy ≡ true → a ≤ x → x < e → q.period.start ≤ x → x < q.period.end → is_piece a e q ≡ true
  unfolding is_piece clipped
  second_piece q x u f g h k = and_both u (lt-ltb (max a q.period.start) (min e q.period.end) (omega arith))

  -- a piece is the part of some period of the list
  piece_from : (ps : List BusyPeriod) {p : BusyPeriod} → Memᴰ p (pieces_of a e ps) → (q : BusyPeriod) × Memᴰ q ps × (is_piece a e q ≡ true) × (p ≡ piece_in a e q)
  unfolding pieces_of
  piece_from [] m = absurd (Memᴰ.not-nil m)
  piece_from (q ∷ ps) {p} m = go (Memᴰ.append_cases (piece_of a e q) m) (is_piece a e q) refl (piece_from ps)
    where
      go : Memᴰ p (piece_of a e q) ⊎ Memᴰ p (pieces_of a e ps) → (t : Bool) → is_piece a e q ≡ t
          → (Memᴰ p (pieces_of a e ps) → (r : BusyPeriod) × Memᴰ r ps × (is_piece a e r ≡ true) × (p ≡ piece_in a e r))
          → (r : BusyPeriod) × Memᴰ r (q ∷ ps) × (is_piece a e r ≡ true) × (p ≡ piece_in a e r)
      go (inl d) true h below =
          (q, Memᴰ.head refl, h, Memᴰ.eq_of_singleton (subst (λ (l : List BusyPeriod). Memᴰ p l) (is_piece_holds a e q h) d))
      go (inl d) false h below = absurd (Memᴰ.not-nil (subst (λ (l : List BusyPeriod). Memᴰ p l) (is_none a e q h) d))
      go (inr d) t h below = let r = below d in (r.0, Memᴰ.tail r.1, r.2, r.3)

  piece_listed : (ps : List BusyPeriod) {q : BusyPeriod} → Memᴰ q ps → is_piece a e q ≡ true → Memᴰ (piece_in a e q) (pieces_of a e ps)
  unfolding pieces_of
  piece_listed [] m h = absurd (Memᴰ.not-nil m)
  piece_listed (r ∷ ps) {q} m h = go (Memᴰ.cases_cons m) (λ d. piece_listed ps d h)
    where
      go : (q ≡ r) ⊎ Memᴰ q ps → (Memᴰ q ps → Memᴰ (piece_in a e q) (pieces_of a e ps)) → Memᴰ (piece_in a e q) (piece_of a e r ++ pieces_of a e ps)
      go (inl s) below =
          Memᴰ.append_left (pieces_of a e ps)
          (subst (λ (z : BusyPeriod). Memᴰ (piece_in a e q) (piece_of a e z)) s
          (subst (λ (l : List BusyPeriod). Memᴰ (piece_in a e q) l) (sym (is_piece_holds a e q h)) (Memᴰ.head refl)))
      go (inr d) below = Memᴰ.append_right (piece_of a e r) (below d)

  -- p is one of the pieces exactly when it is what lies in the range of an instance or a period
  pub piece_iff : (es : List Entry) → e ≤ last_second → EventsSmall es → (p : BusyPeriod)
      → Memᴰ p (busy_pieces a e es) ↔ PieceIs es a e p
  unfolding busy_pieces
  piece_iff es l small p = (
    λ m.
        let r = piece_from (busy_periods es) m in
        let s = piece_second r.0 r.2 in
        record {
          whole = r.0;
          there = listed_is es r.1;
          busy_time = s.0;
          second = max a r.0.period.start;
          in_range_holds = (s.1, omega (arith, s.2));
          covered = (omega arith, omega (arith, s.2));
          part = r.3;
        },
    λ i.
        let r = i.in_range_holds in
        let c = i.covered in
        let early : i.whole.period.start ≤ last_second = omega (arith, r.1, c.0) in
        subst (λ (w : BusyPeriod). Memᴰ w (pieces_of a e (busy_periods es))) (sym i.part)
        (piece_listed (busy_periods es) (is_listed es small early i.there) (second_piece i.whole i.second i.busy_time r.0 r.1 c.0 c.1)),
  )
