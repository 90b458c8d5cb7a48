-- Laws of a text in a value: the search finds it exactly where the value has it in the middle, and the steps of that search.
use Prim.Native.Nat.{ℕ, ◌+◌, ◌≤◌, ◌<◌}
use mathlib.Core.Path.{◌≡◌, refl, sym, ap, subst, ◌∙◌}
use mathlib.Core.Bool.{Bool, true, false, ◌||◌, and-false, or-true}
use mathlib.Core.Logic.{◌↔◌}
use mathlib.Core.List.{List, [], ◌∷◌, ◌++◌, map}
use native.Mathlib.Omega.{arith}
use lib.Dec.{eqb}
use lib.ListN.{length, take, drop, get_or, length-map, length-drop, take-append-drop}
use borrow.Author.Tests.{eqb-true, eq-eqb, ne_eqb}
use Rattle.ascii.proofs.Bools.{and_left, and_right, and_both, clash}
use Rattle.ascii.proofs.Lists.{drop_next, drop_end}
use Rattle.text.specs.TextMatch.{folded_by, starts_with, contains_bytes, contains, starts_at, Occurs}
use Rattle.text.specs.declared.Collation.{Collation}

-- a longer text stands nowhere
starts_with_short : (t v : List ℕ) → length v < length t → starts_with t v ≡ false
starts_with_short [] v h = absurd (omega arith)
starts_with_short (a ∷ t) [] h = refl
starts_with_short (a ∷ t) (b ∷ v) h = rw (starts_with_short t v (omega arith)) (and-false (eqb a b))

contains_bytes_short : (v t : List ℕ) → length v < length t → contains_bytes v t ≡ false
contains_bytes_short [] t h = starts_with_short t [] h
contains_bytes_short (b ∷ v) t h = rw (starts_with_short t (b ∷ v) h) (contains_bytes_short v t (omega arith))

-- what the value begins with it contains
contains_bytes_first : (v t : List ℕ) → starts_with t v ≡ true → contains_bytes v t ≡ true
contains_bytes_first [] t e = e
contains_bytes_first (b ∷ v) t e = rw e

module _ (f : ℕ → ℕ) where
  starts_with_append : (t q : List ℕ) → starts_with (map f t) (map f (t ++ q)) ≡ true
  starts_with_append [] q = refl
  starts_with_append (a ∷ t) q = and_both (eq-eqb (f a) (f a) refl) (starts_with_append t q)

  contains_bytes_middle : (p m q : List ℕ) → contains_bytes (map f (p ++ (m ++ q))) (map f m) ≡ true
  contains_bytes_middle [] m q = contains_bytes_first (map f (m ++ q)) (map f m) (starts_with_append m q)
  contains_bytes_middle (b ∷ p) m q =
      rw (contains_bytes_middle p m q) (or-true (starts_with (map f m) (map f (b ∷ (p ++ (m ++ q))))))

  starts_with_same : (t v : List ℕ) → starts_with (map f t) (map f v) ≡ true → map f (take (length t) v) ≡ map f t
  starts_with_same [] v e = refl
  starts_with_same (a ∷ t) [] e = cc
  starts_with_same (a ∷ t) (b ∷ v) e =
      let h : f a ≡ f b = eqb-true (f a) (f b) (and_left (eqb (f a) (f b)) _ e) in
      let k : map f (take (length t) v) ≡ map f t = starts_with_same t v (and_right (eqb (f a) (f b)) _ e) in
      cc

module _ (c : Collation) where
  occurs_first : (v t : List ℕ) → starts_with (map (folded_by c) t) (map (folded_by c) v) ≡ true → Occurs c v t
  occurs_first v t e = record {
    before = [];
    found = take (length t) v;
    after = drop (length t) v;
    parts = sym (take-append-drop (length t) v);
    same = starts_with_same (folded_by c) t v e;
  }

  occurs_later : (b : ℕ) (v t : List ℕ) → Occurs c v t → Occurs c (b ∷ v) t
  occurs_later b v t o = record {
    before = b ∷ o.before;
    found = o.found;
    after = o.after;
    parts = ap (λ (l : List ℕ). b ∷ l) o.parts;
    same = o.same;
  }

  occurs_either : (b : ℕ) (v t : List ℕ) (x : Bool) → starts_with (map (folded_by c) t) (map (folded_by c) (b ∷ v)) ≡ x
      → (contains_bytes (map (folded_by c) v) (map (folded_by c) t) ≡ true → Occurs c v t)
      → (x || contains_bytes (map (folded_by c) v) (map (folded_by c) t)) ≡ true → Occurs c (b ∷ v) t
  occurs_either b v t true p k e = occurs_first (b ∷ v) t p
  occurs_either b v t false p k e = occurs_later b v t (k e)

  contains_occurs : (v t : List ℕ) → contains c v t ≡ true → Occurs c v t
  unfolding contains
  contains_occurs [] t e = occurs_first [] t e
  contains_occurs (b ∷ v) t e = occurs_either b v t _ refl (contains_occurs v t) e

  occurs_contains : (v t : List ℕ) → Occurs c v t → contains c v t ≡ true
  unfolding contains
  occurs_contains v t o =
      subst (λ (l : List ℕ). contains_bytes (map (folded_by c) l) (map (folded_by c) t) ≡ true) (sym o.parts)
      (subst (λ (l : List ℕ). contains_bytes (map (folded_by c) (o.before ++ (o.found ++ o.after))) l ≡ true) o.same
      (contains_bytes_middle (folded_by c) o.before o.found o.after))

  -- the rule in words: contained exactly where the value is a part before, one equal to the text by the collation, and a part after
  pub contains_iff : (v t : List ℕ) → (contains c v t ≡ true) ↔ Occurs c v t
  contains_iff v t = (contains_occurs v t, occurs_contains v t)

  -- the search at one place, byte by byte
  pub starts_at_next : (v t : List ℕ) (at i : ℕ) → i < length t → at + i < length v
      → folded_by c (get_or v (at + i) 0) ≡ folded_by c (get_or t i 0)
      → starts_at c v (drop (i + 1) t) (at + (i + 1)) ≡ starts_at c v (drop i t) (at + i)
  unfolding starts_at
  starts_at_next v t at i h k e =
      let n : at + (i + 1) ≡ at + i + 1 = omega arith in
      rw (drop_next t i h, drop_next v (at + i) k, n, eq-eqb _ _ (sym e))

  pub starts_at_stop : (v t : List ℕ) (at i : ℕ) → i < length t → at + i < length v
      → (folded_by c (get_or v (at + i) 0) ≡ folded_by c (get_or t i 0) → ⊥) → starts_at c v (drop i t) (at + i) ≡ false
  unfolding starts_at
  starts_at_stop v t at i h k e = rw (drop_next t i h, drop_next v (at + i) k, ne_eqb _ _ (λ x. e (sym x)))

  -- where the first bytes differ
  pub starts_at_first : (v t : List ℕ) (at : ℕ) → 0 < length t → at < length v → (folded_by c (get_or v at 0) ≡ folded_by c (get_or t 0 0) → ⊥)
      → starts_at c v t at ≡ false
  unfolding starts_at
  starts_at_first v [] at h k e = absurd (omega arith)
  starts_at_first v (a ∷ t) at h k e = rw (drop_next v at k, ne_eqb _ _ (λ x. e (sym x)))

  pub starts_at_end : (v t : List ℕ) (at i : ℕ) → length t ≤ i → starts_at c v (drop i t) at ≡ true
  unfolding starts_at
  starts_at_end v t at i h = rw (drop_end t i h)

  -- the search over places: the text stands at no place before `at`, so what is left of the value decides
  pub record Sought (v t : List ℕ) (at : ℕ) : Type 0 where
    pub within : at ≤ length v
    pub same : contains c (drop at v) t ≡ contains c v t

  pub sought_start : (v t : List ℕ) → Sought v t 0
  sought_start v t = record { within = omega arith; same = refl }

  pub sought_found : {v t : List ℕ} {at : ℕ} → Sought v t at → starts_at c v t at ≡ true → contains c v t ≡ true
  unfolding contains starts_at
  sought_found {v} {t} {at} p e =
      sym p.same ∙ contains_bytes_first (map (folded_by c) (drop at v)) (map (folded_by c) t) e

  -- an empty text stands everywhere, so a place where the text does not stand has a byte
  starts_at_inside : (v t : List ℕ) (at : ℕ) → at + length t ≤ length v → starts_at c v t at ≡ false → at < length v
  unfolding starts_at
  starts_at_inside v [] at h e = clash refl e
  starts_at_inside v (b ∷ t) at h e = omega arith

  pub sought_next : {v t : List ℕ} {at : ℕ} → Sought v t at → at + length t ≤ length v → starts_at c v t at ≡ false → Sought v t (at + 1)
  unfolding contains starts_at
  sought_next {v} {t} {at} p h e =
      let k : at < length v = starts_at_inside v t at h e in
      let none : starts_with (map (folded_by c) t) (map (folded_by c) (get_or v at 0 ∷ drop (at + 1) v)) ≡ false = rw (drop_next v at k) at e in
      let step : contains c (drop (at + 1) v) t ≡ contains c (drop at v) t = rw (drop_next v at k, none) in
      record { within = omega arith; same = step ∙ p.same }

  pub sought_end : {v t : List ℕ} {at : ℕ} → Sought v t at → length v < at + length t → contains c v t ≡ false
  unfolding contains
  sought_end {v} {t} {at} p h =
      sym p.same
      ∙ contains_bytes_short (map (folded_by c) (drop at v)) (map (folded_by c) t) (simp (length-map, length-drop) (omega (arith, p.within)))
