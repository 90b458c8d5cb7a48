-- Laws of unfolding: what becomes of each byte, what has no fold stays as it is, and the steps of the pass.
use Prim.Native.Nat.{ℕ, zero, suc, ◌+◌, ◌-◌, ◌≤◌, ◌<◌}
use mathlib.Core.Path.{◌≡◌, refl, sym, ap, subst, ◌∙◌}
use mathlib.Core.Bool.{Bool, true, false, not, ◌||◌}
use mathlib.Core.List.{List, [], ◌∷◌, ◌++◌, append-nil, append_assoc}
use native.Mathlib.Omega.{arith}
use lib.Dec.{ltb}
use lib.ListN.{length, length-append, length-drop, take, drop, get_or, take-append-drop}
use lib.Seq.{get_or-drop, length-take-le, take-take, drop-drop, take_at, paste, length-paste, take-paste, drop-paste}
use Rattle.std.proofs.lemmas.Slice.{put_mid-paste}
use borrow.Rule.Slice.PartMut.{put_mid}
use borrow.Author.Tests.{not-true, ne_eqb, ltb-true, ltb-false}
use Rattle.ascii.proofs.Bools.{and_left, and_right, or_left, or_right, clash, not_so}
use Rattle.ascii.proofs.Lists.{drop_next, drop_end}
use Rattle.text.specs.Unfolding.{is_break, is_blank, is_fold, unfolded, fold_at, Nowhere, Excludes, NextFold, no_fold, Unfolded}

-- a fold is dropped, any other byte is kept
unfolded_by : (a b c : ℕ) (s : List ℕ) (x : Bool) → is_fold a b c ≡ x
    → unfolded (a ∷ b ∷ c ∷ s) ≡ elim x as (λ y. List ℕ) [ true ↦ unfolded s | false ↦ a ∷ unfolded (b ∷ c ∷ s) ]
unfolding unfolded
unfolded_by a b c s x e = ap (λ (y : Bool). elim y as (λ z. List ℕ) [ true ↦ unfolded s | false ↦ a ∷ unfolded (b ∷ c ∷ s) ]) e

pub unfolded_fold : (a b c : ℕ) (s : List ℕ) → is_fold a b c ≡ true → unfolded (a ∷ b ∷ c ∷ s) ≡ unfolded s
unfolded_fold a b c s e = unfolded_by a b c s true e

pub unfolded_kept : (a : ℕ) (s : List ℕ) → is_fold a (get_or s 0 0) (get_or s 1 0) ≡ false → unfolded (a ∷ s) ≡ a ∷ unfolded s
unfolding unfolded
unfolded_kept a [] e = refl
unfolded_kept a (b ∷ []) e = refl
unfolded_kept a (b ∷ c ∷ s) e = unfolded_by a b c s false e

-- bytes without a fold unfold to themselves
pub unfolded_same : (s : List ℕ) → no_fold s ≡ true → unfolded s ≡ s
unfolding unfolded no_fold
unfolded_same [] e = refl
unfolded_same (a ∷ []) e = refl
unfolded_same (a ∷ b ∷ []) e = refl
unfolded_same (a ∷ b ∷ c ∷ s) e =
    unfolded_kept a (b ∷ c ∷ s) (not-true (is_fold a b c) (and_left (not (is_fold a b c)) _ e))
    ∙ ap (λ (l : List ℕ). a ∷ l) (unfolded_same (b ∷ c ∷ s) (and_right (not (is_fold a b c)) _ e))

-- unfolding makes nothing longer
length_by_lem : (a b c : ℕ) (s : List ℕ) (x : Bool) → is_fold a b c ≡ x → length (unfolded s) ≤ length s
    → length (unfolded (b ∷ c ∷ s)) ≤ length (b ∷ c ∷ s) → length (unfolded (a ∷ b ∷ c ∷ s)) ≤ length (a ∷ b ∷ c ∷ s)
length_by_lem a b c s true e p q = rw (unfolded_by a b c s true e) (omega arith)
length_by_lem a b c s false e p q = rw (unfolded_by a b c s false e) (omega arith)

pub length_unfolded : (s : List ℕ) → length (unfolded s) ≤ length s
unfolding unfolded
length_unfolded [] = omega arith
length_unfolded (a ∷ []) = omega arith
length_unfolded (a ∷ b ∷ []) = omega arith
length_unfolded (a ∷ b ∷ c ∷ s) = length_by_lem a b c s (is_fold a b c) refl (length_unfolded s) (length_unfolded (b ∷ c ∷ s))

-- a byte that is not the zero read past the end lies inside
pub get_d_inside : (f : ℕ → Bool) → f 0 ≡ false → (s : List ℕ) (i : ℕ) → f (get_or s i 0) ≡ true → i < length s
get_d_inside f z [] i e = clash e z
get_d_inside f z (b ∷ s) zero e = omega arith
get_d_inside f z (b ∷ s) (suc i) e = omega (arith, get_d_inside f z s i e)

-- so a fold does, with its three bytes
pub fold_inside : (s : List ℕ) (i : ℕ) → fold_at s i ≡ true → i + 3 ≤ length s
unfolding fold_at is_fold is_blank
fold_inside s i e = omega (arith, get_d_inside is_blank refl s (i + 2) (and_right (is_break (get_or s i 0) (get_or s (i + 1) 0)) _ e))

pub no_fold_short : (s : List ℕ) (i : ℕ) → length s < i + 3 → fold_at s i ≡ false
no_fold_short s i h = not_so (fold_at s i) (λ e. omega (arith, fold_inside s i e))

-- a fold begins with CR
pub no_fold_other : (s : List ℕ) (i : ℕ) → (get_or s i 0 ≡ 13 → ⊥) → fold_at s i ≡ false
unfolding fold_at is_fold is_break
no_fold_other s i h = rw (ne_eqb (get_or s i 0) 13 h)

-- an or that is false has no true part
-- places at which a test fails: none yet, those after them, one more, all that an answer excludes, and fewer
pub nowhere_start : (f : List ℕ → ℕ → Bool) (s : List ℕ) (from : ℕ) → from ≤ length s → Nowhere f s from from
nowhere_start f s from h = record { order = omega arith; inside = h; none = λ k a b. absurd (omega arith) }

pub nowhere_join : {f : List ℕ → ℕ → Bool} {s : List ℕ} {from i e : ℕ} → Nowhere f s from i → Nowhere f s i e → Nowhere f s from e
nowhere_join {f} {s} {from} {i} {e} p q = record {
  order = omega (arith, p.order, q.order);
  inside = q.inside;
  none = λ k a b. go k a b (ltb k i) refl;
}
  where
    go : (k : ℕ) → from ≤ k → k < e → (t : Bool) → ltb k i ≡ t → f s k ≡ false
    go k a b true h = p.none k a (ltb-true k i h)
    go k a b false h = q.none k (ltb-false k i h) b

pub nowhere_next : {f : List ℕ → ℕ → Bool} {s : List ℕ} {from i : ℕ} → Nowhere f s from i → i < length s → f s i ≡ false
    → Nowhere f s from (i + 1)
nowhere_next {f} {s} {from} {i} p h e = nowhere_join p (record {
  order = omega arith;
  inside = omega arith;
  none = λ k a b. let same : i ≡ k = omega arith in subst (λ (x : ℕ). f s x ≡ false) same e;
})

pub nowhere_all : {f : List ℕ → ℕ → Bool} {s : List ℕ} {from i e : ℕ} {r : Bool} → Nowhere f s from i → Excludes f s i e r → r ≡ false
    → Nowhere f s from e
nowhere_all p x q = nowhere_join p (x.no q)

pub nowhere_until : {f : List ℕ → ℕ → Bool} {s : List ℕ} {from e : ℕ} (i : ℕ) → Nowhere f s from e → from ≤ i → i ≤ e → Nowhere f s from i
nowhere_until i p g h = record {
  order = g;
  inside = omega (arith, p.inside);
  none = λ k a b. p.none k a (omega arith);
}

-- an answer about n places, while a loop goes through them: k are tested
pub record Tested (f : List ℕ → ℕ → Bool) (s : List ℕ) (from n k : ℕ) (r : Bool) : Type 0 where
  pub most : k ≤ n
  pub no : r ≡ false → Nowhere f s from (from + k)

pub tested_start : (f : List ℕ → ℕ → Bool) (s : List ℕ) (from n : ℕ) → from ≤ length s → Tested f s from n 0 false
tested_start f s from n h =
    let none : from ≡ from + 0 = omega arith in
    record { most = omega arith; no = λ e. subst (Nowhere f s from) none (nowhere_start f s from h) }

pub tested_next : {f : List ℕ → ℕ → Bool} {s : List ℕ} {from n k : ℕ} {r : Bool} → Tested f s from n k r → k < n → from + k < length s
    → Tested f s from n (k + 1) (r || f s (from + k))
tested_next {f} {s} {from} {n} {k} {r} p h g =
    let more : from + k + 1 ≡ from + (k + 1) = omega arith in
    let x : Bool = f s (from + k) in
    record {
      most = omega arith;
      no = λ e. subst (Nowhere f s from) more (nowhere_next (p.no (or_left r x e)) g (or_right r x e));
    }

pub tested_end : {f : List ℕ → ℕ → Bool} {s : List ℕ} {from n k : ℕ} {r : Bool} → Tested f s from n k r → n ≤ k
    → Excludes f s from (from + n) r
tested_end {f} {s} {from} {n} {k} {r} p h =
    let all : k ≡ n = omega (arith, p.most) in
    record { no = λ e. subst (λ (x : ℕ). Nowhere f s from (from + x)) all (p.no e) }

-- a count of places, while a loop goes through n of them: k are tested, and the test fails at each of these that comes before the count
pub record Scanned (f : List ℕ → ℕ → Bool) (s : List ℕ) (from n k r : ℕ) : Type 0 where
  pub most : k ≤ n
  pub bound : r ≤ n
  pub none : (j : ℕ) → from ≤ j → j < from + k → j < from + r → f s j ≡ false

pub scanned_start : (f : List ℕ → ℕ → Bool) (s : List ℕ) (from n : ℕ) → Scanned f s from n 0 n
scanned_start f s from n = record { most = omega arith; bound = omega arith; none = λ j a b d. absurd (omega arith) }

-- where the test may hold the count goes no further, where it fails the place is passed
pub scanned_stop : {f : List ℕ → ℕ → Bool} {s : List ℕ} {from n k r x : ℕ} → Scanned f s from n k r → k < n → x ≤ k → x ≤ r
    → Scanned f s from n (k + 1) x
scanned_stop {f} {s} {from} {n} {k} {r} {x} p h g l = record {
  most = omega arith;
  bound = omega (arith, p.bound);
  none = λ j a b d. p.none j a (omega arith) (omega arith);
}

pub scanned_pass : {f : List ℕ → ℕ → Bool} {s : List ℕ} {from n k r x : ℕ} → Scanned f s from n k r → k < n → f s (from + k) ≡ false → x ≤ r
    → Scanned f s from n (k + 1) x
scanned_pass {f} {s} {from} {n} {k} {r} {x} p h e l = record {
  most = omega arith;
  bound = omega (arith, p.bound);
  none = λ j a b d. go j a b d (ltb j (from + k)) refl;
}
  where
    go : (j : ℕ) → from ≤ j → j < from + (k + 1) → j < from + x → (t : Bool) → ltb j (from + k) ≡ t → f s j ≡ false
    go j a b d true q = p.none j a (ltb-true j (from + k) q) (omega arith)
    go j a b d false q =
        let same : from + k ≡ j = omega (arith, ltb-false j (from + k) q) in
        subst (λ (y : ℕ). f s y ≡ false) same e

pub scanned_end : {f : List ℕ → ℕ → Bool} {s : List ℕ} {from n k r : ℕ} → Scanned f s from n k r → n ≤ k → from + n ≤ length s
    → Nowhere f s from (from + r)
scanned_end {f} {s} {from} {n} {k} {r} p h g =
    let l : r ≤ n = p.bound in
    record { order = omega arith; inside = omega arith; none = λ j a b. p.none j a (omega arith) b }

-- the search for the next fold: it begins here, or none has room at the last two places
pub fold_found : {s : List ℕ} {from i : ℕ} → Nowhere fold_at s from i → fold_at s i ≡ true → NextFold s from i
fold_found p e = record { before = p; here = λ h. e }

pub fold_none : {s : List ℕ} {from i : ℕ} → Nowhere fold_at s from i → length s ≤ i + 2 → NextFold s from (length s)
fold_none {s} {from} {i} p h = record {
  before = nowhere_join p (record {
    order = p.inside;
    inside = omega arith;
    none = λ k a b. no_fold_short s k (omega arith);
  });
  here = λ k. absurd (omega arith);
}

-- the same by place, as the pass goes over the bytes
pub unfolded_fold_at : (s : List ℕ) (i : ℕ) → fold_at s i ≡ true → unfolded (drop (i + 3) s) ≡ unfolded (drop i s)
unfolding fold_at
unfolded_fold_at s i e =
    let h : i + 3 ≤ length s = fold_inside s i e in
    let two : i + 1 + 1 ≡ i + 2 = omega arith in
    let three : i + 2 + 1 ≡ i + 3 = omega arith in
    let last : drop (i + 2) s ≡ get_or s (i + 2) 0 ∷ drop (i + 3) s = rw three at (drop_next s (i + 2) (omega arith)) in
    let rest : drop (i + 1) s ≡ get_or s (i + 1) 0 ∷ drop (i + 2) s = rw two at (drop_next s (i + 1) (omega arith)) in
    rw (drop_next s i (omega arith), rest, last) (sym (unfolded_fold _ _ _ _ e))

pub unfolded_kept_at : (s : List ℕ) (i : ℕ) → i < length s → fold_at s i ≡ false
    → get_or s i 0 ∷ unfolded (drop (i + 1) s) ≡ unfolded (drop i s)
unfolding fold_at
unfolded_kept_at s i h e =
    let one : i + 1 + 0 ≡ i + 1 = omega arith in
    let two : i + 1 + 1 ≡ i + 2 = omega arith in
    rw (drop_next s i h)
    (sym (unfolded_kept (get_or s i 0) (drop (i + 1) s) (rw (get_or-drop (i + 1) s 0 0, get_or-drop (i + 1) s 1 0, one, two) e)))

-- a run in which no fold begins is kept
pub unfolded_run : (s : List ℕ) (m i : ℕ) → i + m ≤ length s → ((k : ℕ) → i ≤ k → k < i + m → fold_at s k ≡ false)
    → take m (drop i s) ++ unfolded (drop (i + m) s) ≡ unfolded (drop i s)
unfolded_run s zero i h f =
    let none : i + 0 ≡ i = omega arith in
    ap (λ (k : ℕ). unfolded (drop k s)) none
unfolded_run s (suc m) i h f =
    let more : i + suc m ≡ i + 1 + m = omega arith in
    ap (λ (l : List ℕ). take (suc m) l ++ unfolded (drop (i + suc m) s)) (drop_next s i (omega arith))
    ∙ ap (λ (k : ℕ). get_or s i 0 ∷ (take m (drop (i + 1) s) ++ unfolded (drop k s))) more
    ∙ ap (λ (l : List ℕ). get_or s i 0 ∷ l) (unfolded_run s m (i + 1) (omega arith) (λ k a b. f k (omega arith) (omega arith)))
    ∙ unfolded_kept_at s i (omega arith) (f i (omega arith) (omega arith))

-- the copy of a run to its place
pub run_copied : (work cal run : List ℕ) (n i e : ℕ) → i ≤ e → e ≤ length cal → run ≡ take (e - i) (drop i cal)
    → put_mid n (n + (e - i) - n) work run ≡ paste work n (take (e - i) (drop i cal)) (e - i)
run_copied work cal run n i e o h q =
    let some : e - i ≤ length (drop i cal) = rw length-drop (omega arith) in
    put_mid-paste n (n + (e - i) - n) work run (take (e - i) (drop i cal)) (e - i) q (omega arith) (sym (length-take-le (e - i) (drop i cal) some))

-- the pass: the first n bytes of the buffer are what was unfolded of the i bytes passed, and the later ones are as they were
pub record Passed (cal old work : List ℕ) (n i : ℕ) : Type 0 where
  pub order : n ≤ i
  pub inside : i ≤ length cal
  pub size : length work ≡ length old
  pub front : take n work ++ unfolded (drop i cal) ≡ unfolded cal
  pub rest : drop n work ≡ drop n old

pub passed_start : (cal old : List ℕ) → Passed cal old old 0 0
passed_start cal old = record { order = omega arith; inside = omega arith; size = refl; front = refl; rest = refl }

passed_fold : {cal old work : List ℕ} {n i : ℕ} → Passed cal old work n i → fold_at cal i ≡ true → Passed cal old work n (i + 3)
passed_fold {cal} {old} {work} {n} {i} p e = record {
  order = omega arith;
  inside = fold_inside cal i e;
  size = p.size;
  front = ap (λ (l : List ℕ). take n work ++ l) (unfolded_fold_at cal i e) ∙ p.front;
  rest = p.rest;
}

passed_run : {cal old work left : List ℕ} {n i e : ℕ} → length cal ≤ length old → Passed cal old work n i → NextFold cal i e
    → left ≡ paste work n (take (e - i) (drop i cal)) (e - i) → Passed cal old left (n + (e - i)) e
passed_run {cal} {old} {work} {left} {n} {i} {e} r p f q =
    let o : i ≤ e = f.before.order in
    let m : ℕ = e - i in
    let end : e ≡ i + m = omega (arith, o) in
    let room : n + m ≤ length work = omega (arith, p.order, p.size, o, f.before.inside) in
    let fits : m ≤ length (drop i cal) = rw length-drop (omega (arith, f.before.inside)) in
    let long : m ≡ length (take m (drop i cal)) = sym (length-take-le m (drop i cal) fits) in
    let some : m ≤ length (take m (drop i cal)) = omega (arith, long) in
    let run : take m (drop i cal) ++ unfolded (drop e cal) ≡ unfolded (drop i cal) =
    ap (λ (k : ℕ). take m (drop i cal) ++ unfolded (drop k cal)) end
    ∙ unfolded_run cal m i (omega (arith, f.before.inside)) (λ k a b. f.before.none k a (omega arith)) in
    record {
      order = omega (arith, p.order, o);
      inside = f.before.inside;
      size = ap length q ∙ length-paste work n (take m (drop i cal)) m room some ∙ p.size;
      front =
          ap (λ (l : List ℕ). take (n + m) l ++ unfolded (drop e cal)) q
          ∙ ap (λ (l : List ℕ). l ++ unfolded (drop e cal)) (take-paste work n (take m (drop i cal)) m (omega arith) some)
          ∙ append_assoc (take n work) (take m (take m (drop i cal))) (unfolded (drop e cal))
          ∙ ap (λ (l : List ℕ). take n work ++ (l ++ unfolded (drop e cal))) (take-take m m (drop i cal) (omega arith))
          ∙ ap (λ (l : List ℕ). take n work ++ l) run
          ∙ p.front;
      rest =
          ap (drop (n + m)) q
          ∙ drop-paste work n (take m (drop i cal)) m (omega arith) some
          ∙ sym (drop-drop m n work)
          ∙ ap (drop m) p.rest
          ∙ drop-drop m n old;
    }

passed_all : {cal old work : List ℕ} {n i : ℕ} → length cal ≤ length old → Passed cal old work n i → length cal ≤ i
    → Unfolded cal old work n
unfolding unfolded
passed_all {cal} {old} {work} {n} {i} r p h =
    let room : n ≤ length work = omega (arith, p.order, p.inside, p.size) in
    let whole : take n work ≡ unfolded cal =
    sym (append-nil (take n work))
    ∙ ap (λ (l : List ℕ). take n work ++ l) (sym (ap unfolded (drop_end cal i h)))
    ∙ p.front in
    let count : n ≡ length (unfolded cal) = sym (length-take-le n work room) ∙ ap length whole in
    record {
      count = count;
      bytes =
          sym (take-append-drop n work)
          ∙ ap (λ (l : List ℕ). l ++ drop n work) whole
          ∙ ap (λ (l : List ℕ). unfolded cal ++ l) p.rest
          ∙ ap (λ (k : ℕ). unfolded cal ++ drop k old) count;
    }

-- a turn of the pass copies the run up to the next fold and drops the fold, or ends with the run
pub passed_next : {cal old work left : List ℕ} {n i e : ℕ} → length cal ≤ length old → Passed cal old work n i → NextFold cal i e
    → left ≡ paste work n (take (e - i) (drop i cal)) (e - i) → e < length cal → Passed cal old left (n + (e - i)) (e + 3)
passed_next r p f q h = passed_fold (passed_run r p f q) (f.here h)

pub passed_end : {cal old work left : List ℕ} {n i e : ℕ} → length cal ≤ length old → Passed cal old work n i → NextFold cal i e
    → left ≡ paste work n (take (e - i) (drop i cal)) (e - i) → length cal ≤ e → Unfolded cal old left (n + (e - i))
passed_end r p f q h = passed_all r (passed_run r p f q) h

-- what a caller learns of the buffer: the unfolded calendar stands first, and every later byte is as it was
pub unfolded_room : {cal old work : List ℕ} {n : ℕ} → Unfolded cal old work n → n ≤ length work
unfolded_room {cal} {old} {work} {n} u =
    omega (arith, u.count, simp length-append at (ap length u.bytes))

pub unfolded_front : {cal old work : List ℕ} {n : ℕ} → Unfolded cal old work n → take n work ≡ unfolded cal
unfolded_front {cal} {old} {work} {n} u = ap (take n) u.bytes ∙ take_at (unfolded cal) _ n (sym u.count)

-- CR, then CR LF blank LF: the CR LF that unfolding brings together stays
example_brought_together : unfolded (13 ∷ 13 ∷ 10 ∷ 32 ∷ 10 ∷ []) ≡ 13 ∷ 10 ∷ []
unfolding unfolded is_fold is_break is_blank
example_brought_together = refl

-- so does a fold that it brings together: CR LF, a fold, then a blank
example_not_again : unfolded (13 ∷ 10 ∷ 13 ∷ 10 ∷ 32 ∷ 32 ∷ []) ≡ 13 ∷ 10 ∷ 32 ∷ []
unfolding unfolded is_fold is_break is_blank
example_not_again = refl

-- folds one after the other, the first at the start of the file, by space and by tab
example_twice : unfolded (13 ∷ 10 ∷ 32 ∷ 13 ∷ 10 ∷ 9 ∷ 65 ∷ []) ≡ 65 ∷ []
unfolding unfolded is_fold is_break is_blank
example_twice = refl
