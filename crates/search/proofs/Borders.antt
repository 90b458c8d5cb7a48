-- Laws of the search by borders: how the best fit changes with a byte, and what it says of the text in the value.
use Prim.Native.Nat.{ℕ, ◌+◌, ◌-◌, ◌≤◌, ◌<◌}
use mathlib.Core.Path.{◌≡◌, refl, sym, ap, subst, ◌∙◌}
use mathlib.Core.Bool.{Bool, true, false}
use mathlib.Core.List.{List, [], ◌∷◌, ◌++◌, map}
use native.Mathlib.Omega.{arith}
use lib.Dec.{ltb}
use lib.ListN.{length, take, drop, get_or, set, length-map, length-drop, length-append, get_or-append, get_or-map, take-append-drop}
use lib.Seq.{get_or-set_same, get_or-set_other, get_or-append-add, get_or-take, get_or-drop, ext_get_or, length-take-le, take_all}
use borrow.Author.Tests.{ltb-true, ltb-false}
use Rattle.ascii.proofs.Bools.{not_so}
use Rattle.text.proofs.TextMatch.{contains_iff, Sought, sought_next, starts_at_first}
use Rattle.text.specs.TextMatch.{folded_by, contains, Occurs}
use Rattle.text.specs.declared.Collation.{Collation}
use Rattle.search.specs.Borders.{byte_of, Fits, Best, Borders, Steps}

module _ {t : ℕ → ℕ} {m : ℕ} {s : ℕ → ℕ} where
  fits_less : {p e : ℕ} (d : ℕ) → d ≤ e → Fits t m s p e → Fits t m s p d
  fits_less d h f = record { same = λ j a b. f.same j a (omega arith) }

  -- what fits up to i and has the next byte fits up to i + 1
  fits_more : {p i : ℕ} (k : ℕ) → p + k ≡ i → s i ≡ t k → Fits t m s p i → Fits t m s p (i + 1)
  fits_more {p} {i} k h q f = record { same = λ j a b. go j a b (ltb j k) refl }
    where
      go : (j : ℕ) → j < m → p + j < i + 1 → (x : Bool) → ltb j k ≡ x → s (p + j) ≡ t j
      go j a b true e = f.same j a (omega (arith, ltb-true j k e))
      go j a b false e =
          let one : j ≡ k = omega (arith, ltb-false j k e) in
          let two : p + j ≡ i = omega arith in
          rw (one, h) q

-- two places of the text in s that overlap: the text fits itself at their distance
fits_self : {t : ℕ → ℕ} {m : ℕ} {s : ℕ → ℕ} {p q e : ℕ} (d k : ℕ) → p + d ≡ q → p + k ≡ e → k ≤ m → Fits t m s p e → Fits t m s q e
    → Fits t m t d k
fits_self {t} {m} {s} {p} {q} {e} d k h l n f g = record {
  same = λ j a b.
      let i : p + (d + j) ≡ q + j = omega arith in
      sym (f.same (d + j) (omega arith) (omega arith)) ∙ ap s i ∙ g.same j a (omega arith);
}

-- and back: what fits s at p, and itself d further on, fits s at p + d
fits_shift : {t : ℕ → ℕ} {m : ℕ} {s : ℕ → ℕ} {p q e : ℕ} (d k : ℕ) → p + d ≡ q → p + k ≡ e → k ≤ m → Fits t m s p e → Fits t m t d k
    → Fits t m s q e
fits_shift {t} {m} {s} {p} {q} {e} d k h l n f g = record {
  same = λ j a b.
      let i : q + j ≡ p + (d + j) = omega arith in
      ap s i ∙ f.same (d + j) (omega arith) (omega arith) ∙ g.same j a (omega arith);
}

module _ {t : ℕ → ℕ} {m : ℕ} {s : ℕ → ℕ} {lo i : ℕ} where
  best_look : {k : ℕ} → Best t m s lo i i k → Best t m s lo i (i + 1) k
  best_look b = record { order = b.order; fits = b.fits; none = λ p l h f. b.none p l h (fits_less i (omega arith) f) }

  -- the next byte is the text's: one more
  best_more : {k : ℕ} → Best t m s lo i (i + 1) k → s i ≡ t k → Best t m s lo (i + 1) (i + 1) (k + 1)
  best_more {k} b q =
      let o : lo + k ≤ i = b.order in
      let same : i + 1 - (k + 1) ≡ i - k = omega arith in
      record {
        order = omega arith;
        fits = subst (λ (x : ℕ). Fits t m s x (i + 1)) (sym same) (fits_more k (omega arith) q b.fits);
        none = λ p l h f. b.none p l (omega arith) f;
      }

  differs : {k : ℕ} → Best t m s lo i (i + 1) k → k < m → (s i ≡ t k → ⊥) → Fits t m s (i - k) (i + 1) → ⊥
  differs {k} b h q f =
      let o : lo + k ≤ i = b.order in
      let same : i - k + k ≡ i = omega arith in
      q (ap s (sym same) ∙ f.same k h (omega arith))

  -- it is another: the table's border is next
  best_less : {k : ℕ} (f : ℕ) → Best t m s lo i (i + 1) k → k < m → (s i ≡ t k → ⊥) → Best t m t 1 k k f → Best t m s lo i (i + 1) f
  best_less {k} f b h q r =
      let o : lo + k ≤ i = b.order in
      let l : 1 + f ≤ k = r.order in
      record {
        order = omega arith;
        fits = fits_shift (k - f) k (omega arith) (omega arith) (omega arith) b.fits r.fits;
        none = λ p a g z. go p a g z (ltb p (i - k)) refl (ltb (i - k) p) refl;
      }
    where
      go : (p : ℕ) → lo ≤ p → p < i - f → Fits t m s p (i + 1) → (x : Bool) → ltb p (i - k) ≡ x → (y : Bool) → ltb (i - k) p ≡ y → ⊥
      go p a g z true e y e' = b.none p a (ltb-true p (i - k) e) z
      go p a g z false e false e' =
          let same : p ≡ i - k = omega (arith, ltb-false p (i - k) e, ltb-false (i - k) p e') in
          differs b h q (subst (λ (x : ℕ). Fits t m s x (i + 1)) same z)
      go p a g z false e true e' =
          let o : lo + k ≤ i = b.order in
          let l : 1 + f ≤ k = r.order in
          let w : i - k < p = ltb-true (i - k) p e' in
          let d : ℕ = p - (i - k) in
          r.none d (omega arith) (omega arith)
          (fits_self d k (omega arith) (omega arith) (omega arith) b.fits (fits_less i (omega arith) z))

  -- none is left
  best_none : Best t m s lo i (i + 1) 0 → 0 < m → (s i ≡ t 0 → ⊥) → Best t m s lo (i + 1) (i + 1) 0
  best_none b h q = record {
    order = omega (arith, b.order);
    fits = record { same = λ j a g. absurd (omega arith) };
    none = λ p a g z. go p a g z (ltb p i) refl;
  }
    where
      go : (p : ℕ) → lo ≤ p → p < i + 1 - 0 → Fits t m s p (i + 1) → (x : Bool) → ltb p i ≡ x → ⊥
      go p a g z true e = b.none p a (omega (arith, ltb-true p i e)) z
      go p a g z false e =
          let same : p ≡ i - 0 = omega (arith, ltb-false p i e) in
          differs b h q (subst (λ (x : ℕ). Fits t m s x (i + 1)) same z)

-- the step: what is left to try after k bytes were, of those that were there before the byte b
pub record Trying (t : ℕ → ℕ) (m from b k : ℕ) : Type 0 where
  pub most : k ≤ from
  pub best : (s : ℕ → ℕ) (lo i : ℕ) → s i ≡ b → Best t m s lo i i from → Best t m s lo i (i + 1) k

module _ {t : ℕ → ℕ} {m : ℕ} where
  pub trying_start : (k b : ℕ) → Trying t m k b k
  trying_start k b = record { most = omega arith; best = λ s lo i e x. best_look x }

  pub trying_next : {from b k n : ℕ} {table : List ℕ} → Trying t m from b k → from < m → (t k ≡ b → ⊥) → (k ≡ 0 → ⊥) → Borders t m table n
      → from < n → Trying t m from b (get_or table k 0)
  trying_next {from} {b} {k} {n} {table} y h q z w g =
      let l : k ≤ from = y.most in
      let x : Best t m t 1 k k (get_or table k 0) = w.entry k (omega arith) (omega arith) in
      record {
        most = omega (arith, x.order);
        best = λ s lo i e v. best_less (get_or table k 0) (y.best s lo i e v) (omega arith) (λ o. q (sym o ∙ e)) x;
      }

  pub border_less : {k n : ℕ} {table : List ℕ} → Borders t m table n → k < n → (k ≡ 0 → ⊥) → get_or table k 0 < k
  border_less {k} {n} {table} w h z = omega (arith, (w.entry k (omega arith) h).order)

  pub trying_found : {from b k : ℕ} → Trying t m from b k → t k ≡ b → Steps t m from b (k + 1)
  trying_found {from} {b} {k} y q = record {
    most = omega (arith, y.most);
    best = λ s lo i e v. best_more (y.best s lo i e v) (e ∙ sym q);
  }

  pub trying_none : {from b k : ℕ} → Trying t m from b k → from < m → (t k ≡ b → ⊥) → k ≡ 0 → Steps t m from b 0
  trying_none {from} {b} {k} y h q z =
      let y0 : Trying t m from b 0 = subst (Trying t m from b) z y in
      let q0 : t 0 ≡ b → ⊥ = subst (λ (x : ℕ). t x ≡ b → ⊥) z q in
      record { most = omega arith; best = λ s lo i e v. best_none (y0.best s lo i e v) (omega arith) (λ o. q0 (sym o ∙ e)) }

pub borders_some : {t : ℕ → ℕ} {m : ℕ} {table : List ℕ} {n : ℕ} (k : ℕ) → k ≤ n → Borders t m table n → Borders t m table k
borders_some k h w = record { entry = λ q a b. w.entry q a (omega arith) }

-- the table while it is made: its entries below i stand, and the next is k
pub record Making (t : ℕ → ℕ) (m : ℕ) (table : List ℕ) (i k : ℕ) : Type 0 where
  pub first : 1 ≤ i
  pub within : i ≤ m
  pub so_far : Borders t m table i
  pub best : Best t m t 1 i i k

pub making_start : (t : ℕ → ℕ) (m : ℕ) (table : List ℕ) → 1 ≤ m → Making t m table 1 0
making_start t m table h = record {
  first = omega arith;
  within = h;
  so_far = record { entry = λ q a b. absurd (omega arith) };
  best = record {
    order = omega arith;
    fits = record { same = λ j a b. absurd (omega arith) };
    none = λ p a b f. absurd (omega arith);
  };
}

module _ {t : ℕ → ℕ} {m : ℕ} where
  pub making_set : {table : List ℕ} {i k : ℕ} → Making t m table i k → i < length table → Borders t m (set table i k) (i + 1)
  making_set {table} {i} {k} y h = record { entry = λ q a b. go q a b (ltb q i) refl }
    where
      go : (q : ℕ) → 1 ≤ q → q < i + 1 → (x : Bool) → ltb q i ≡ x → Best t m t 1 q q (get_or (set table i k) q 0)
      go q a b true e =
          let l : q < i = ltb-true q i e in
          rw (get_or-set_other table i q k 0 (λ o. omega arith)) (y.so_far.entry q a l)
      go q a b false e =
          let same : q ≡ i = omega (arith, ltb-false q i e) in
          rw (same, get_or-set_same table i k 0 h) y.best

  pub making_step : {table : List ℕ} {i k : ℕ} → Making t m table i k → i < length table → Borders t m (set table i k) (k + 1)
  making_step {table} {i} {k} y h = record { entry = λ q a b. (making_set y h).entry q a (omega (arith, y.best.order)) }

  pub making_next : {table : List ℕ} {i k r b : ℕ} → Making t m table i k → i < length table → i < m → b ≡ t i → Steps t m k b r
      → Making t m (set table i k) (i + 1) r
  making_next {table} {i} {k} {r} {b} y h l e w = record {
    first = omega arith;
    within = omega arith;
    so_far = making_set y h;
    best = w.best t 1 i (sym e) y.best;
  }

module _ (c : Collation) (v t : List ℕ) where
  fits_occurs : {p e : ℕ} → p + length t ≤ e → e ≤ length v → Fits (byte_of c t) (length t) (byte_of c v) p e → Occurs c v t
  unfolding byte_of
  fits_occurs {p} {e} h l f =
      let m : ℕ = length t in
      let f0 : ℕ → ℕ = folded_by c in
      let size : length (take m (drop p v)) ≡ m = length-take-le m (drop p v) (rw length-drop (omega arith)) in
      record {
        before = take p v;
        found = take m (drop p v);
        after = drop m (drop p v);
        parts = sym (take-append-drop p v) ∙ ap (λ (l : List ℕ). take p v ++ l) (sym (take-append-drop m (drop p v)));
        same = ext_get_or (f0 0) (map f0 (take m (drop p v))) (map f0 t) (length-map (take m (drop p v)) f0 ∙ size ∙ sym (length-map t f0))
            (λ j a.
            let b : j < m = omega (arith, length-map (take m (drop p v)) f0) in
            get_or-map f0 (take m (drop p v)) j 0
            ∙ ap f0 (get_or-take m (drop p v) j 0 b ∙ get_or-drop p v j 0)
            ∙ f.same j b (omega arith)
            ∙ sym (get_or-map f0 t j 0));
      }

  record Placed (e : ℕ) : Type 0 where
    p : ℕ
    room : p + length t ≤ length v
    fits : Fits (byte_of c t) (length t) (byte_of c v) p e

  occurs_fits : (e : ℕ) → Occurs c v t → Placed e
  unfolding byte_of
  occurs_fits e o =
      let f0 : ℕ → ℕ = folded_by c in
      let size : length o.found ≡ length t = sym (length-map o.found f0) ∙ ap length o.same ∙ length-map t f0 in
      let whole : length v ≡ length o.before + (length o.found + length o.after) =
      ap length o.parts ∙ length-append o.before _ ∙ ap (λ (x : ℕ). length o.before + x) (length-append o.found o.after) in
      record {
        p = length o.before;
        room = omega arith;
        fits = record {
          same = λ j a b.
              ap (λ (l : List ℕ). f0 (get_or l (length o.before + j) 0)) o.parts
              ∙ ap f0 (get_or-append-add o.before _ j 0 ∙ get_or-append o.found o.after 0 j (omega arith))
              ∙ sym (get_or-map f0 o.found j 0)
              ∙ ap (λ (l : List ℕ). get_or l j (f0 0)) o.same
              ∙ get_or-map f0 t j 0;
        };
      }

-- the search: k bytes of the text stand before i, and it stands nowhere whole
pub record Seeking (c : Collation) (v t : List ℕ) (i k : ℕ) : Type 0 where
  pub within : i ≤ length v
  pub short : k < length t
  pub best : Best (byte_of c t) (length t) (byte_of c v) 0 i i k

module _ {c : Collation} {v t : List ℕ} where
  pub seeking_start : 0 < length t → Seeking c v t 0 0
  seeking_start h = record {
    within = omega arith;
    short = h;
    best = record {
      order = omega arith;
      fits = record { same = λ j a b. absurd (omega arith) };
      none = λ p a b f. absurd (omega arith);
    };
  }

  pub seeking_next : {i k r b : ℕ} → Seeking c v t i k → i < length v → b ≡ folded_by c (get_or v i 0) → Steps (byte_of c t) (length t) k b r
      → r < length t → Seeking c v t (i + 1) r
  unfolding byte_of
  seeking_next {i} {k} {r} {b} y h q w l = record {
    within = omega arith;
    short = l;
    best = w.best (byte_of c v) 0 i (sym q) y.best;
  }

  pub seeking_found : {i k r b : ℕ} → Seeking c v t i k → i < length v → b ≡ folded_by c (get_or v i 0) → Steps (byte_of c t) (length t) k b r
      → r ≡ length t → contains c v t ≡ true
  unfolding byte_of
  seeking_found {i} {k} {r} {b} y h q w l =
      let z : Best (byte_of c t) (length t) (byte_of c v) 0 (i + 1) (i + 1) r = w.best (byte_of c v) 0 i (sym q) y.best in
      (contains_iff c v t).1 (fits_occurs c v t (omega (arith, z.order)) (omega arith) z.fits)

  pub seeking_end : {i k : ℕ} → Seeking c v t i k → length v ≤ i → contains c v t ≡ false
  seeking_end {i} {k} y h = not_so _ (λ e. go (occurs_fits c v t i ((contains_iff c v t).0 e)))
    where
      go : Placed c v t i → ⊥
      go x = y.best.none x.p (omega arith) (omega (arith, x.room, y.short, y.best.order, y.within)) x.fits

-- an empty text stands in every value
pub contains_empty : (c : Collation) (v t : List ℕ) → length t ≡ 0 → contains c v t ≡ true
contains_empty c v [] h = (contains_iff c v []).1 (record { before = []; found = []; after = v; parts = refl; same = refl })
contains_empty c v (a ∷ t) h = absurd (omega arith)

-- place by place: another first byte, and what is left of the value handed on
pub sought_other : {c : Collation} {v t : List ℕ} {at a b : ℕ} → Sought c v t at → 0 < length t → at + length t ≤ length v
    → a ≡ folded_by c (get_or v at 0) → b ≡ folded_by c (get_or t 0 0) → (a ≡ b → ⊥) → Sought c v t (at + 1)
sought_other {c} {v} {t} {at} {a} {b} p h k e f n =
    sought_next c p k (starts_at_first c v t at h (omega arith) (λ q. n (e ∙ q ∙ sym f)))

pub sought_rest : {c : Collation} {v t : List ℕ} {at : ℕ} {r : Bool} → Sought c v t at → r ≡ contains c (take (length v - at) (drop at v)) t
    → r ≡ contains c v t
sought_rest {c} {v} {t} {at} {r} p e =
    e ∙ ap (λ (l : List ℕ). contains c l t) (take_all (length v - at) (drop at v) (rw length-drop (omega arith))) ∙ p.same
