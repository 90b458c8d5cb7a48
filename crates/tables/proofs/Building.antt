-- Going over the pieces in a column makes the table of a type, and what that lists: the runs of the seconds that its pieces cover.
use Prim.Native.Nat.{ℕ, zero, suc, ◌+◌, ◌-◌, ◌*◌, ◌≤◌, ◌<◌}
use mathlib.Core.Path.{◌≡◌, refl, sym, ap, ◌∙◌}
use mathlib.Core.List.{List, [], ◌∷◌, ◌++◌, append-nil, map, Memᴰ}
use native.Mathlib.Numerals.{unary_clauses}
use native.Mathlib.Omega.{arith}
use lib.ListN.{length, take, drop, get_or, length-drop, drop_of_length-le}
use borrow.Author.Tests.{eq-eqb, ne_eqb, eqb-true, eqb-false}
use Rattle.ascii.proofs.Lists.{drop_next}
use Rattle.periods.specs.declared.Period.{Period}
use Rattle.periods.specs.Periods.{period}
use Rattle.table.specs.Inserting.{inserted_all}
use Rattle.std.proofs.lemmas.List.{take-map, drop-map}
use Rattle.table.specs.declared.Span.{Span}
use Rattle.table.proofs.Spans.{starts_long, ends_long}
use Rattle.table.specs.Tables.{starts_of, ends_of, PeriodTable, listed, Sound, Added}
use Rattle.tables.specs.Building.{periods_at, Built, BuiltAt}
use mathlib.Core.Bool.{Bool, true, false}
use lib.Dec.{eqb}
use lib.Seq.{sets, sets-eq, drop_at, take_at, length-take-le}
use Rattle.periods.specs.declared.BusyType.{BusyType}
use Rattle.table.specs.Runs.{runs, Lies}
use Rattle.table.proofs.Inserting.{inserted_all_all}
use Rattle.periods.specs.BusyTypes.{report_place, same_busy, BusyPeriod}
use Rattle.pieces.specs.Columns.{flat}
use Rattle.pieces.specs.Covered.{of_type, covered_by}
use Rattle.pieces.proofs.Columns.{flat_length}

-- three numbers stand at a place
three_next : (c : List ℕ) (at : ℕ) → at + 3 ≤ length c → drop at c ≡ get_or c at 0 ∷ get_or c (at + 1) 0 ∷ get_or c (at + 2) 0 ∷ drop (at + 3) c
three_next c at h =
    drop_next c at (omega arith)
    ∙ ap (λ (l : List ℕ). get_or c at 0 ∷ l) (next (at + 1) (at + 2) (omega arith) (omega arith))
    ∙ ap (λ (l : List ℕ). get_or c at 0 ∷ get_or c (at + 1) 0 ∷ l) (next (at + 2) (at + 3) (omega arith) (omega arith))
  where
    next : (j m : ℕ) → j < length c → m ≡ j + 1 → drop j c ≡ get_or c j 0 ∷ drop m c
    next j m h e = rw e (drop_next c j h)

module _ (c : List ℕ) (k n i at : ℕ) (h : i < n) (l : at + 3 ≤ length c) where
  left : n - i ≡ suc (n - (i + 1))
  left = omega arith

  -- the first piece that is left is of the type, or it is of another
  periods_here : get_or c (at + 2) 0 ≡ k
      → periods_at k (n - i) (drop at c) ≡ period (get_or c at 0) (get_or c (at + 1) 0) ∷ periods_at k (n - (i + 1)) (drop (at + 3) c)
  unfolding periods_at
  periods_here e = rw (three_next c at l, left, periods_at, eq-eqb (get_or c (at + 2) 0) k e)

  periods_other : (get_or c (at + 2) 0 ≡ k → ⊥) → periods_at k (n - i) (drop at c) ≡ periods_at k (n - (i + 1)) (drop (at + 3) c)
  unfolding periods_at
  periods_other e = rw (three_next c at l, left, periods_at, ne_eqb (get_or c (at + 2) 0) k e)

-- of n pieces, i are behind; the next stands at this place, and it and those after it are still to be added
pub record Building (c : List ℕ) (n k m : ℕ) (t : PeriodTable) (i at : ℕ) : Type 0 where
  pub upto : i ≤ n
  pub place : at ≡ 3 * i
  pub list : inserted_all (listed t) (periods_at k (n - i) (drop at c)) ≡ inserted_all [] (periods_at k n c)
  pub count : t.count + length (periods_at k (n - i) (drop at c)) ≤ length (periods_at k n c)
  pub sound : Sound t
  pub long : length t.starts ≡ m

pub building_start : {c : List ℕ} {n k : ℕ} (ss es : List ℕ) → length es ≡ length ss → Building c n k (length ss) (record { count = 0; starts = ss; ends = es }) 0 0
unfolding listed
building_start {c} {n} {k} ss es e =
    record {
      upto = omega arith;
      place = refl;
      list = simp unary_clauses;
      count = simp unary_clauses (omega arith);
      sound = record { few = omega arith; even = e };
      long = refl;
    }

module _ {c : List ℕ} {n k m : ℕ} {t : PeriodTable} {i at : ℕ} (b : Building c n k m t i at) where
  next : 3 * (i + 1) ≡ at + 3
  next = omega (arith, b.place)

  -- the next piece is inside the column
  building_room : i < n → 3 * n ≤ length c → at + 3 ≤ length c
  building_room h l = omega (arith, b.place)

  -- where it is of the type, the table has room for it
  pub building_asks : i < n → 3 * n ≤ length c → get_or c (at + 2) 0 ≡ k → length (periods_at k n c) ≤ m → (t.count < length t.starts) × (length t.ends ≡ length t.starts)
  building_asks h l e r = (omega (arith, b.count, ap length (periods_here c k n i at h (building_room h l) e), b.long), b.sound.even)

  pub building_added : i < n → 3 * n ≤ length c → get_or c (at + 2) 0 ≡ k → {r : PeriodTable} → Added t (get_or c at 0) (get_or c (at + 1) 0) r
      → length r.starts ≡ m → Building c n k m r (i + 1) (3 * (i + 1))
  unfolding inserted_all
  building_added h l e d q =
      rw next
      (record {
        upto = omega arith;
        place = omega (arith, b.place);
        list = ap (λ (qs : List Period). inserted_all qs (periods_at k (n - (i + 1)) (drop (at + 3) c))) d.list
            ∙ sym (ap (λ (ps : List Period). inserted_all (listed t) ps) (periods_here c k n i at h (building_room h l) e))
            ∙ b.list;
        count = omega (arith, b.count, d.count, ap length (periods_here c k n i at h (building_room h l) e));
        sound = d.sound;
        long = q;
      })

  pub building_passed : i < n → 3 * n ≤ length c → (get_or c (at + 2) 0 ≡ k → ⊥) → Building c n k m t (i + 1) (3 * (i + 1))
  building_passed h l e =
      rw next
      (record {
        upto = omega arith;
        place = omega (arith, b.place);
        list = sym (ap (λ (ps : List Period). inserted_all (listed t) ps) (periods_other c k n i at h (building_room h l) e)) ∙ b.list;
        count = omega (arith, b.count, ap length (periods_other c k n i at h (building_room h l) e));
        sound = b.sound;
        long = b.long;
      })

  pub building_end : n ≤ i → Built c n k t
  unfolding periods_at inserted_all
  building_end h =
      record {
        list = rw (← b.list, (let z : n - i ≡ 0 = omega arith in z), periods_at, inserted_all);
        count = omega (arith, b.count);
        sound = b.sound;
      }

-- ---- from a row on

-- what a part from row k on became, behind the rows before it
module _ {A : Type 0} where
  abbrev whole : List A → List A → ℕ → List A
  whole s ys k = take k s ++ (ys ++ drop (length s - k) (drop k s))

  module _ (s ys : List A) (k : ℕ) (h : k ≤ length s) where
    part_left : drop k (whole s ys k) ≡ ys
    part_left =
        let none : length (drop k s) ≤ length s - k = omega (arith, length-drop k s) in
        drop_at (take k s) (ys ++ drop (length s - k) (drop k s)) k (length-take-le k s h)
        ∙ ap (λ (l : List A). ys ++ l) (drop_of_length-le (drop k s) none)
        ∙ append-nil ys

    part_before : take k (whole s ys k) ≡ take k s
    part_before = take_at (take k s) (ys ++ drop (length s - k) (drop k s)) k (length-take-le k s h)

pub built_at : {c : List ℕ} {n k : ℕ} (first m : ℕ) (ss ys : List Span) → first ≤ length ss → length (whole ss ys first) ≡ length ss
    → Built c n k (record { count = m; starts = starts_of ys; ends = ends_of ys })
    → BuiltAt c n k first (starts_of ss) (ends_of ss) m (starts_of (whole ss ys first)) (ends_of (whole ss ys first))
built_at {c} {n} {k} first m ss ys h long d =
    record {
      built = rw (left (λ (s : Span). s.start), left (λ (s : Span). s.end)) d;
      starts_before_holds = before (λ (s : Span). s.start);
      ends_before_holds = before (λ (s : Span). s.end);
      starts_long = starts_long (whole ss ys first) ∙ long ∙ sym (starts_long ss);
      ends_long = ends_long (whole ss ys first) ∙ long ∙ sym (ends_long ss);
    }
  where
    left : (f : Span → ℕ) → drop first (map f (whole ss ys first)) ≡ map f ys
    left f = drop-map f first (whole ss ys first) ∙ ap (map f) (part_left ss ys first h)

    before : (f : Span → ℕ) → take first (map f (whole ss ys first)) ≡ take first (map f ss)
    before f = take-map f first (whole ss ys first) ∙ ap (map f) (part_before ss ys first h) ∙ sym (take-map f first ss)

-- the order of two numbers does not matter to their equality
eqb_turned : (a b : ℕ) → eqb a b ≡ eqb b a
eqb_turned a b = go (eqb b a) refl
  where
    go : (t : Bool) → eqb b a ≡ t → eqb a b ≡ t
    go true e = eq-eqb a b (sym (eqb-true b a e))
    go false e = ne_eqb a b (λ h. eqb-false b a e (sym h))

-- of pieces in a column, those of the type's place are those of the type
pub periods_stored : (b : BusyType) (ps : List BusyPeriod) (rest : List ℕ) → periods_at (report_place b) (length ps) (flat ps ++ rest) ≡ of_type b ps
unfolding periods_at flat of_type same_busy
periods_stored b [] rest = refl
periods_stored b (p ∷ ps) rest =
    rw (periods_at, eqb_turned (report_place p.busy) (report_place b))
    (ap (λ (qs : List Period). elim (eqb (report_place b) (report_place p.busy)) [ true ↦ p.period ∷ qs | false ↦ qs ]) (periods_stored b ps rest))

-- where every piece lies in a range, so do the periods of one type
of_type_lies : (b : BusyType) (lo hi : ℕ) (ps : List BusyPeriod) → ((p : BusyPeriod) → Memᴰ p ps → Lies lo hi p.period)
    → (q : Period) → Memᴰ q (of_type b ps) → Lies lo hi q
unfolding of_type
of_type_lies b lo hi [] lies q = elim [ ]
of_type_lies b lo hi (p ∷ ps) lies q = go (same_busy b p.busy) (of_type_lies b lo hi ps (λ x m. lies x (Memᴰ.tail m)) q)
  where
    go : (t : Bool) → (Memᴰ q (of_type b ps) → Lies lo hi q)
        → Memᴰ q (elim t [ true ↦ p.period ∷ of_type b ps | false ↦ of_type b ps ]) → Lies lo hi q
    go true rest (Memᴰ.head e) = rw e (lies p (Memᴰ.head refl))
    go true rest (Memᴰ.tail m) = rest m
    go false rest m = rest m

-- numbers stored from the start on stand before what is left of the column
pub flat_stored : (o : List ℕ) (ps : List BusyPeriod) → 3 * length ps ≤ length o → sets o 0 (flat ps) ≡ flat ps ++ drop (3 * length ps) o
flat_stored o ps h =
    sets-eq (flat ps) o 0 (omega (arith, flat_length ps))
    ∙ ap (λ (k : ℕ). flat ps ++ drop k o) (let z : 0 + length (flat ps) ≡ 3 * length ps = omega (arith, flat_length ps) in z)

-- pieces that lie in a range stand first in a column: those of a type, each added in turn, are the runs of what they cover
built_runs : (b : BusyType) (s m : ℕ) (ps : List BusyPeriod) (rest : List ℕ) {c : List ℕ} {n : ℕ} → c ≡ flat ps ++ rest → n ≡ length ps
    → ((p : BusyPeriod) → Memᴰ p ps → Lies s (s + m) p.period) → inserted_all [] (periods_at (report_place b) n c) ≡ runs (covered_by b ps) s m
unfolding covered_by
built_runs b s m ps rest e f lies =
    rw (e, f) (ap (λ (qs : List Period). inserted_all [] qs) (periods_stored b ps rest))
    ∙ inserted_all_all s m (of_type b ps) (of_type_lies b s (s + m) ps lies)

-- the same where they were stored from the start of the column on
pub built_stored : (b : BusyType) (s m : ℕ) (ps : List BusyPeriod) (o : List ℕ) {c : List ℕ} {n : ℕ} → c ≡ sets o 0 (flat ps)
    → 3 * length ps ≤ length o → n ≡ length ps → ((p : BusyPeriod) → Memᴰ p ps → Lies s (s + m) p.period)
    → inserted_all [] (periods_at (report_place b) n c) ≡ runs (covered_by b ps) s m
built_stored b s m ps o e h = built_runs b s m ps (drop (3 * length ps) o) (e ∙ flat_stored o ps h)

-- ---- how many there are of the three types

-- 1 where a piece is of a type
one : Bool → ℕ
one true = 1
one false = 0

one_more : (t : Bool) (p : Period) (ps : List Period) → length {A = Period} (elim t [ true ↦ p ∷ ps | false ↦ ps ]) ≡ one t + length ps
unfolding one
one_more true p ps = omega arith
one_more false p ps = omega arith

-- no piece is of two types
one_place : (j : ℕ) → one (eqb j 0) + one (eqb j 1) + one (eqb j 2) ≤ 1
unfolding one
one_place j = go (eqb j 0) (eqb j 1) (eqb j 2) refl refl refl
  where
    go : (r s t : Bool) → eqb j 0 ≡ r → eqb j 1 ≡ s → eqb j 2 ≡ t → one r + one s + one t ≤ 1
    go true true t p q w = absurd (omega (arith, eqb-true j 0 p, eqb-true j 1 q))
    go true false true p q w = absurd (omega (arith, eqb-true j 0 p, eqb-true j 2 w))
    go true false false p q w = omega arith
    go false true true p q w = absurd (omega (arith, eqb-true j 1 q, eqb-true j 2 w))
    go false true false p q w = omega arith
    go false false true p q w = omega arith
    go false false false p q w = omega arith

pub periods_few : (n : ℕ) (c : List ℕ) → length (periods_at 0 n c) + length (periods_at 1 n c) + length (periods_at 2 n c) ≤ n
unfolding periods_at
periods_few zero c = omega arith
periods_few (suc n) [] = omega arith
periods_few (suc n) (a ∷ []) = omega arith
periods_few (suc n) (a ∷ b ∷ []) = omega arith
periods_few (suc n) (a ∷ b ∷ j ∷ c) =
    omega
    (arith, periods_few n c, one_place j, one_more (eqb j 0) (period a b) (periods_at 0 n c), one_more (eqb j 1) (period a b) (periods_at 1 n c), one_more (eqb j 2) (period a b) (periods_at 2 n c))
