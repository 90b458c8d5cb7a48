-- Laws of bytes cut at a separator outside quotes: one byte more, one piece more, and text that holds no such separator.
use Prim.Native.Nat.{ℕ, zero, suc, ◌+◌, ◌-◌, ◌≤◌, ◌<◌}
use mathlib.Core.Path.{◌≡◌, refl, sym, ap, ◌∙◌}
use mathlib.Core.Bool.{Bool, true, false, cond, not, ◌&&◌, and-false}
use mathlib.Core.List.{List, [], ◌∷◌, ◌++◌}
use native.Mathlib.Numerals.{add-one}
use native.Mathlib.Omega.{arith}
use native.Mathlib.Nat.{add_assoc}
use lib.Dec.{eqb, ltb, leb-suc-suc}
use lib.ListN.{length, take, drop, get_or, length-append, length-drop}
use lib.Seq.{length-take-le, take-length, drop-drop, take-append_seam, drop-append-add}
use borrow.Author.Tests.{eq-eqb, ne_eqb, lt-ltb, le-ltb, ltb-true, ltb-false, not-true}
use Rattle.ascii.specs.Names.{every}
use Rattle.ascii.proofs.Bools.{and_left, and_right, and_both, clash, apart}
use Rattle.ascii.proofs.Lists.{drop_next, drop_end, suffix}
use Rattle.line.specs.Splitting.{quoted_after, cuts_at, first_outside, next_place, before, after, glue, split_parts, split_after, quotes_off, plain_split}

-- ---- one byte

module _ (g : Bool) (sep : ℕ) (q : Bool) (b : ℕ) (s : List ℕ) where
  pub first_outside_cut : cuts_at sep q b ≡ true → first_outside g sep q (b ∷ s) ≡ 0
  unfolding first_outside
  first_outside_cut e = rw (e, first_outside)

  pub first_outside_keep : cuts_at sep q b ≡ false → first_outside g sep q (b ∷ s) ≡ suc (first_outside g sep (quoted_after g q b) s)
  unfolding first_outside
  first_outside_keep e = rw (e, first_outside)

  parts_cut : cuts_at sep q b ≡ true → split_parts g sep q (b ∷ s) ≡ [] ∷ split_parts g sep q s
  unfolding split_parts
  parts_cut e = rw (e, split_parts)

  parts_keep : cuts_at sep q b ≡ false → split_parts g sep q (b ∷ s) ≡ glue b (split_parts g sep (quoted_after g q b) s)
  unfolding split_parts
  parts_keep e = rw (e, split_parts)

-- outside quotes is where a separator cuts
cuts_outside : (sep : ℕ) (q : Bool) (b : ℕ) → cuts_at sep q b ≡ true → q ≡ false
cuts_outside sep true b e = clash (and_right (eqb b sep) false e) refl
cuts_outside sep false b e = refl

pub first_outside_end : (g : Bool) (sep : ℕ) (q : Bool) → first_outside g sep q [] ≡ 0
unfolding first_outside
first_outside_end g sep q = refl

pub parts_end : (g : Bool) (sep : ℕ) (q : Bool) → split_parts g sep q [] ≡ [] ∷ []
unfolding split_parts
parts_end g sep q = refl

-- ---- the loop that looks for the separator: at place i, with what it knows of quotes

module _ (g : Bool) (sep : ℕ) (q : Bool) (s : List ℕ) (i : ℕ) where
  pub find_here : i < length s → cuts_at sep q (get_or s i 0) ≡ true → i + first_outside g sep q (drop i s) ≡ i
  find_here h e = rw (drop_next s i h, first_outside_cut g sep q (get_or s i 0) (drop (i + 1) s) e) (omega arith)

  pub find_next : i < length s → cuts_at sep q (get_or s i 0) ≡ false → {p : Bool} → p ≡ quoted_after g q (get_or s i 0)
      → (i + 1) + first_outside g sep p (drop (i + 1) s) ≡ i + first_outside g sep q (drop i s)
  find_next h e f = rw (f, drop_next s i h, first_outside_keep g sep q (get_or s i 0) (drop (i + 1) s) e) (omega arith)

  pub find_end : length s ≤ i → i + first_outside g sep q (drop i s) ≡ i
  find_end h = rw (drop_end s i h, first_outside_end g sep q) (omega arith)

-- ---- the loop before it: no quote seen yet

module _ (g : Bool) (sep : ℕ) (s : List ℕ) (i : ℕ) where
  -- a byte that is neither the separator nor a quote is passed
  pub usual_next : i < length s → (get_or s i 0 ≡ sep → ⊥) → (get_or s i 0 ≡ 34 → ⊥) → next_place g sep s (i + 1) ≡ next_place g sep s i
  unfolding next_place
  usual_next h p q = find_next g sep false s i h (rw (ne_eqb (get_or s i 0) sep p)) (rw (ne_eqb (get_or s i 0) 34 q, and-false g))

  pub usual_here : i < length s → get_or s i 0 ≡ sep → i ≡ next_place g sep s i
  unfolding next_place
  usual_here h p = sym (find_here g sep false s i h (rw (eq-eqb (get_or s i 0) sep p)))

  pub usual_end : length s ≤ i → i ≡ next_place g sep s i
  unfolding next_place
  usual_end h = sym (find_end g sep false s i h)

-- ---- the first piece

pub first_outside_le : (g : Bool) (sep : ℕ) (q : Bool) (s : List ℕ) → first_outside g sep q s ≤ length s
first_outside_le g sep q [] = rw (first_outside_end g sep q) (omega arith)
first_outside_le g sep q (b ∷ s) = go (cuts_at sep q b) refl (first_outside_le g sep (quoted_after g q b) s)
  where
    go : (t : Bool) → cuts_at sep q b ≡ t → first_outside g sep (quoted_after g q b) s ≤ length s → first_outside g sep q (b ∷ s) ≤ suc (length s)
    go true e h = rw (first_outside_cut g sep q b s e) (omega arith)
    go false e h = rw (first_outside_keep g sep q b s e) (omega arith)

pub split_after_in : (g : Bool) (sep : ℕ) (s : List ℕ) (i : ℕ) → i < length s → split_after g sep s i ≡ split_parts g sep false (drop (i + 1) s)
unfolding split_after
split_after_in g sep s i h = ap (λ (t : Bool). cond t (split_parts g sep false (drop (i + 1) s)) []) (lt-ltb i (length s) h)

pub split_after_out : (g : Bool) (sep : ℕ) (s : List ℕ) (i : ℕ) → length s ≤ i → split_after g sep s i ≡ []
unfolding split_after
split_after_out g sep s i h = ap (λ (t : Bool). cond t (split_parts g sep false (drop (i + 1) s)) []) (le-ltb i (length s) h)

-- a byte in front moves each place by one
split_after_cons : (g : Bool) (sep b : ℕ) (s : List ℕ) (i : ℕ) → split_after g sep (b ∷ s) (suc i) ≡ split_after g sep s i
unfolding split_after
split_after_cons g sep b s i =
    ap (λ (t : Bool). cond t (split_parts g sep false (drop (suc i + 1) (b ∷ s))) []) (leb-suc-suc (suc i) (length s))
    ∙ ap (λ (k : ℕ). cond (ltb i (length s)) (split_parts g sep false (drop k (b ∷ s))) []) (add-one (suc i) ∙ ap suc (sym (add-one i)))

-- the pieces are the bytes before the first separator, and the pieces behind it
parts_at : (g : Bool) (sep : ℕ) (q : Bool) (s : List ℕ) → split_parts g sep q s ≡ take (first_outside g sep q s) s ∷ split_after g sep s (first_outside g sep q s)
parts_at g sep q [] =
    parts_end g sep q ∙ sym (rw (first_outside_end g sep q) (ap (λ (r : List (List ℕ)). [] ∷ r) (split_after_out g sep [] 0 (omega arith))))
parts_at g sep q (b ∷ s) = go (cuts_at sep q b) refl (parts_at g sep (quoted_after g q b) s)
  where
    k : ℕ
    k = first_outside g sep (quoted_after g q b) s

    go : (t : Bool) → cuts_at sep q b ≡ t → split_parts g sep (quoted_after g q b) s ≡ take k s ∷ split_after g sep s k
        → split_parts g sep q (b ∷ s) ≡ take (first_outside g sep q (b ∷ s)) (b ∷ s) ∷ split_after g sep (b ∷ s) (first_outside g sep q (b ∷ s))
    go true e h =
        parts_cut g sep q b s e
        ∙ ap (λ (t : Bool). [] ∷ split_parts g sep t s) (cuts_outside sep q b e)
        ∙ sym (rw (first_outside_cut g sep q b s e) (ap (λ (r : List (List ℕ)). [] ∷ r) (split_after_in g sep (b ∷ s) 0 (omega arith))))
    go false e h =
        parts_keep g sep q b s e
        ∙ ap (λ (r : List (List ℕ)). glue b r) h
        ∙ ap (λ (r : List (List ℕ)). (b ∷ take k s) ∷ r) (sym (split_after_cons g sep b s k))
        ∙ sym (rw (first_outside_keep g sep q b s e) refl)

-- places in a suffix are places in the whole list
split_after_drop : (g : Bool) (sep : ℕ) (s : List ℕ) (from k : ℕ) → from ≤ length s → split_after g sep (drop from s) k ≡ split_after g sep s (from + k)
split_after_drop g sep s from k h = go (ltb (from + k) (length s)) refl
  where
    go : (t : Bool) → ltb (from + k) (length s) ≡ t → split_after g sep (drop from s) k ≡ split_after g sep s (from + k)
    go true e =
        let i : from + k < length s = ltb-true _ _ e in
        let j : k < length (drop from s) = simp length-drop (omega arith) in
        split_after_in g sep (drop from s) k j
        ∙ ap (λ (l : List ℕ). split_parts g sep false l) (drop-drop (k + 1) from s ∙ ap (λ (n : ℕ). drop n s) (sym (add_assoc from k 1)))
        ∙ sym (split_after_in g sep s (from + k) i)
    go false e =
        let i : length s ≤ from + k = ltb-false _ _ e in
        let j : length (drop from s) ≤ k = simp length-drop (omega arith) in
        split_after_out g sep (drop from s) k j ∙ sym (split_after_out g sep s (from + k) i)

-- the same at a place of a longer list: what a loop over the pieces reads
pub parts_from : (g : Bool) (sep : ℕ) (s : List ℕ) (from : ℕ) → from ≤ length s
    → split_parts g sep false (drop from s) ≡ take (next_place g sep s from - from) (drop from s) ∷ split_after g sep s (next_place g sep s from)
unfolding next_place
parts_from g sep s from h =
    let k : ℕ = first_outside g sep false (drop from s) in
    let n : k ≡ (from + k) - from = omega arith in
    parts_at g sep false (drop from s)
    ∙ ap (λ (r : List (List ℕ)). take k (drop from s) ∷ r) (split_after_drop g sep s from k h)
    ∙ ap (λ (m : ℕ). take m (drop from s) ∷ split_after g sep s (from + k)) n

-- behind the separator at place i stand the piece up to the next one, and the pieces behind that
pub split_after_next : (g : Bool) (sep : ℕ) (s : List ℕ) (i : ℕ) → i < length s
    → split_after g sep s i
    ≡ take (next_place g sep s (i + 1) - (i + 1)) (drop (i + 1) s) ∷ split_after g sep s (next_place g sep s (i + 1))
split_after_next g sep s i h = split_after_in g sep s i h ∙ parts_from g sep s (i + 1) (omega arith)

-- the next place is no nearer than the start and no further than the end
pub next_place_ge : (g : Bool) (sep : ℕ) (s : List ℕ) (from : ℕ) → from ≤ next_place g sep s from
unfolding next_place
next_place_ge g sep s from = omega arith

pub next_place_le : (g : Bool) (sep : ℕ) (s : List ℕ) (from : ℕ) → from ≤ length s → next_place g sep s from ≤ length s
unfolding next_place
next_place_le g sep s from h =
    let k : first_outside g sep false (drop from s) ≤ length s - from = rw (length-drop from s) at (first_outside_le g sep false (drop from s)) in
    omega arith

pub next_place_first : (g : Bool) (sep : ℕ) (s : List ℕ) → next_place g sep s 0 ≡ first_outside g sep false s
unfolding next_place
next_place_first g sep s = omega arith

-- there is always a first piece
pub parts_some : (g : Bool) (sep : ℕ) (q : Bool) (s : List ℕ) → 1 ≤ length (split_parts g sep q s)
parts_some g sep q s = rw (parts_at g sep q s) (omega arith)

-- ---- text without a separator outside quotes

-- no separator outside quotes, and the end stands outside quotes
abbrev pub closed : Bool → ℕ → Bool → List ℕ → Bool
closed g sep q [] = not q
closed g sep q (b ∷ s) = not (cuts_at sep q b) && closed g sep (quoted_after g q b) s

pub closed_append : (g : Bool) (sep : ℕ) (q : Bool) (s t : List ℕ) → closed g sep q s ≡ true → closed g sep false t ≡ true → closed g sep q (s ++ t) ≡ true
closed_append g sep q [] t p k = rw (not-true q p) k
closed_append g sep q (b ∷ s) t p k =
    and_both (and_left (not (cuts_at sep q b)) _ p) (closed_append g sep (quoted_after g q b) s t (and_right (not (cuts_at sep q b)) _ p) k)

-- it is cut off whole by the separator behind it
pub first_outside_closed : (g : Bool) (sep : ℕ) (q : Bool) (t r : List ℕ) → closed g sep q t ≡ true → first_outside g sep q (t ++ (sep ∷ r)) ≡ length t
first_outside_closed g sep q [] r p =
    first_outside_cut g sep q sep r (and_both (eq-eqb sep sep refl) p)
first_outside_closed g sep q (b ∷ t) r p =
    first_outside_keep g sep q b (t ++ (sep ∷ r)) (not-true _ (and_left (not (cuts_at sep q b)) _ p))
    ∙ ap suc (first_outside_closed g sep (quoted_after g q b) t r (and_right (not (cuts_at sep q b)) _ p))

pub parts_closed : (g : Bool) (sep : ℕ) (q : Bool) (t r : List ℕ) → closed g sep q t ≡ true → split_parts g sep q (t ++ (sep ∷ r)) ≡ t ∷ split_parts g sep false r
parts_closed g sep q [] r p =
    parts_cut g sep q sep r (and_both (eq-eqb sep sep refl) p) ∙ ap (λ (x : Bool). [] ∷ split_parts g sep x r) (not-true q p)
parts_closed g sep q (b ∷ t) r p =
    parts_keep g sep q b (t ++ (sep ∷ r)) (not-true _ (and_left (not (cuts_at sep q b)) _ p))
    ∙ ap (λ (l : List (List ℕ)). glue b l) (parts_closed g sep (quoted_after g q b) t r (and_right (not (cuts_at sep q b)) _ p))

-- alone it is the one piece
pub parts_one : (g : Bool) (sep : ℕ) (q : Bool) (t : List ℕ) → closed g sep q t ≡ true → split_parts g sep q t ≡ t ∷ []
parts_one g sep q [] p = parts_end g sep q
parts_one g sep q (b ∷ t) p =
    parts_keep g sep q b t (not-true _ (and_left (not (cuts_at sep q b)) _ p))
    ∙ ap (λ (l : List (List ℕ)). glue b l) (parts_one g sep (quoted_after g q b) t (and_right (not (cuts_at sep q b)) _ p))

pub first_outside_alone : (g : Bool) (sep : ℕ) (q : Bool) (t : List ℕ) → closed g sep q t ≡ true → first_outside g sep q t ≡ length t
first_outside_alone g sep q [] p = first_outside_end g sep q
first_outside_alone g sep q (b ∷ t) p =
    first_outside_keep g sep q b t (not-true _ (and_left (not (cuts_at sep q b)) _ p))
    ∙ ap suc (first_outside_alone g sep (quoted_after g q b) t (and_right (not (cuts_at sep q b)) _ p))

pub before_closed : (g : Bool) (sep : ℕ) (t r : List ℕ) → closed g sep false t ≡ true → before g sep (t ++ (sep ∷ r)) ≡ t
unfolding before
before_closed g sep t r p = rw (first_outside_closed g sep false t r p) (take-append_seam t (sep ∷ r))

pub before_alone_lem : (g : Bool) (sep : ℕ) (t : List ℕ) → closed g sep false t ≡ true → before g sep t ≡ t
unfolding before
before_alone_lem g sep t p = rw (first_outside_alone g sep false t p) (take-length t)

pub after_closed : (g : Bool) (sep : ℕ) (t r : List ℕ) → closed g sep false t ≡ true → after g sep (t ++ (sep ∷ r)) ≡ r
unfolding after
after_closed g sep t r p = rw (first_outside_closed g sep false t r p) (drop-append-add t (sep ∷ r) 1)

-- bytes of a class that has neither the separator nor a quote
pub closed_class : (g : Bool) (sep : ℕ) (f : ℕ → Bool) → f sep ≡ false → f 34 ≡ false → (s : List ℕ) → every f s ≡ true → closed g sep false s ≡ true
closed_class g sep f p q [] e = refl
closed_class g sep f p q (b ∷ s) e =
    rw
    (ne_eqb b sep (apart f b sep (and_left (f b) _ e) p), ne_eqb b 34 (apart f b 34 (and_left (f b) _ e) q), and-false g)
    (closed_class g sep f p q s (and_right (f b) _ e))

-- inside quotes nothing cuts
inside_uncut : (sep b : ℕ) → cuts_at sep true b ≡ false
inside_uncut sep b = and-false (eqb b sep)

-- bytes between quotes, to the quote that closes them
pub closed_quoted : (sep : ℕ) (f : ℕ → Bool) → f 34 ≡ false → (v : List ℕ) → every f v ≡ true → closed true sep true (v ++ (34 ∷ [])) ≡ true
closed_quoted sep f q [] e = rw (inside_uncut sep 34)
closed_quoted sep f q (b ∷ v) e =
    rw (inside_uncut sep b, ne_eqb b 34 (apart f b 34 (and_left (f b) _ e) q)) (closed_quoted sep f q v (and_right (f b) _ e))

-- ---- quotes taken off

pub quotes_off_quoted : (v : List ℕ) → quotes_off (34 ∷ (v ++ (34 ∷ []))) ≡ v
unfolding quotes_off
quotes_off_quoted v =
    let n : length (v ++ (34 ∷ [])) - 1 ≡ length v = simp length-append (omega arith) in
    rw n (take-append_seam v (34 ∷ []))

pub quotes_off_class : (f : ℕ → Bool) → f 34 ≡ false → (v : List ℕ) → every f v ≡ true → quotes_off v ≡ v
unfolding quotes_off
quotes_off_class f q [] e = refl
quotes_off_class f q (b ∷ v) e = rw (ne_eqb b 34 (apart f b 34 (and_left (f b) _ e) q))

pub quotes_off_empty : (s : List ℕ) → length s ≡ 0 → s ≡ quotes_off s
unfolding quotes_off
quotes_off_empty [] e = refl
quotes_off_empty (b ∷ s) e = absurd (omega arith)

pub quotes_off_other : (s : List ℕ) → (get_or s 0 0 ≡ 34 → ⊥) → s ≡ quotes_off s
unfolding quotes_off
quotes_off_other [] h = refl
quotes_off_other (b ∷ s) h = rw (ne_eqb b 34 h)

-- the bytes behind the first quote, but the last
pub quotes_off_inside : (s : List ℕ) → get_or s 0 0 ≡ 34 → take (length s - 1 - 1) (drop 1 s) ≡ quotes_off s
unfolding quotes_off
quotes_off_inside [] h = refl
quotes_off_inside (b ∷ s) h =
    let n : suc (length s) - 1 - 1 ≡ length s - 1 = omega arith in
    rw (n, eq-eqb b 34 h)

pub quotes_off_alone : (s : List ℕ) → get_or s 0 0 ≡ 34 → length s ≡ 1 → [] ≡ quotes_off s
quotes_off_alone s h k = ap (λ (n : ℕ). take (n - 1 - 1) (drop 1 s)) (sym k) ∙ quotes_off_inside s h

-- ---- parts of a slice

pub before_is : (g : Bool) (sep : ℕ) (s : List ℕ) → take (next_place g sep s 0) s ≡ before g sep s
unfolding before
before_is g sep s = ap (λ (n : ℕ). take n s) (next_place_first g sep s)

pub before_fits : (g : Bool) (sep : ℕ) (s : List ℕ) (k : ℕ) → k ≡ next_place g sep s 0 → k ≡ length (take k s)
before_fits g sep s k e =
    let h : k ≤ length s = omega (arith, next_place_le g sep s 0 (omega arith)) in
    sym (length-take-le k s h)

pub after_is : (g : Bool) (sep : ℕ) (s : List ℕ) (k : ℕ) → k ≡ next_place g sep s 0 → drop (k + 1) s ≡ after g sep s
unfolding after
after_is g sep s k e = ap (λ (n : ℕ). drop (n + 1) s) (e ∙ next_place_first g sep s)

pub after_part : (g : Bool) (sep : ℕ) (s : List ℕ) (k : ℕ) → k ≡ next_place g sep s 0 → take (length s - (k + 1)) (drop (k + 1) s) ≡ after g sep s
after_part g sep s k e = suffix s (k + 1) ∙ after_is g sep s k e

pub after_none : (g : Bool) (sep : ℕ) (s : List ℕ) (k : ℕ) → k ≡ next_place g sep s 0 → length s ≤ k → [] ≡ after g sep s
after_none g sep s k e h = sym (drop_end s (k + 1) (omega arith)) ∙ after_is g sep s k e

-- ---- the loop that counts the pieces: n of them begin at or before the separator at `at`

pub record Counted (g : Bool) (sep : ℕ) (s : List ℕ) (n at : ℕ) : Type 0 where
  pub inside : at ≤ length s
  pub few : n ≤ at + 1
  pub total : n + length (split_after g sep s at) ≡ length (split_parts g sep false s)

pub counted_start : (g : Bool) (sep : ℕ) (s : List ℕ) → Counted g sep s 1 (next_place g sep s 0)
counted_start g sep s =
    record {
      inside = next_place_le g sep s 0 (omega arith);
      few = omega arith;
      total = omega (arith, ap length (parts_from g sep s 0 (omega arith)));
    }

pub counted_next : (g : Bool) (sep : ℕ) (s : List ℕ) (n at : ℕ) → at < length s → Counted g sep s n at → Counted g sep s (n + 1) (next_place g sep s (at + 1))
counted_next g sep s n at h k =
    record {
      inside = next_place_le g sep s (at + 1) (omega arith);
      few = omega (arith, next_place_ge g sep s (at + 1));
      total = omega (arith, ap length (split_after_next g sep s at h), k.total);
    }

pub counted_end : (g : Bool) (sep : ℕ) (s : List ℕ) (n at : ℕ) → length s ≤ at → Counted g sep s n at → n ≡ length (split_parts g sep false s)
counted_end g sep s n at h k = omega (arith, ap length (split_after_out g sep s at h), k.total)

-- ---- the loop that goes to piece n: `left` pieces on from the one that stands from `from` to `at`

pub record Reached (g : Bool) (sep : ℕ) (s : List ℕ) (n from at left : ℕ) : Type 0 where
  pub rising : from ≤ at
  pub inside : at ≤ length s
  pub same : get_or (take (at - from) (drop from s) ∷ split_after g sep s at) left [] ≡ get_or (split_parts g sep false s) n []

pub reached_start : (g : Bool) (sep : ℕ) (s : List ℕ) (n : ℕ) {p : ℕ} → p ≡ next_place g sep s 0 → Reached g sep s n 0 p n
reached_start g sep s n e =
    rw e
    (record {
      rising = omega arith;
      inside = next_place_le g sep s 0 (omega arith);
      same = ap (λ (l : List (List ℕ)). get_or l n []) (sym (parts_from g sep s 0 (omega arith)));
    })

-- one piece on
get_d_next : (x : List ℕ) (xs : List (List ℕ)) (n : ℕ) → 0 < n → get_or xs (n - 1) [] ≡ get_or (x ∷ xs) n []
get_d_next x xs zero h = absurd (omega arith)
get_d_next x xs (suc n) h = let e : suc n - 1 ≡ n = omega arith in rw e

pub reached_next : (g : Bool) (sep : ℕ) (s : List ℕ) (n from at left : ℕ) → 0 < left → at < length s → Reached g sep s n from at left
    → {p : ℕ} → p ≡ next_place g sep s (at + 1) → Reached g sep s n (at + 1) p (left - 1)
reached_next g sep s n from at left h k r e =
    rw e
    (record {
      rising = next_place_ge g sep s (at + 1);
      inside = next_place_le g sep s (at + 1) (omega arith);
      same =
          ap (λ (l : List (List ℕ)). get_or l (left - 1) []) (sym (split_after_next g sep s at k))
          ∙ get_d_next (take (at - from) (drop from s)) (split_after g sep s at) left h
          ∙ r.same;
    })

-- no further piece
pub reached_none : (g : Bool) (sep : ℕ) (s : List ℕ) (n from at left : ℕ) → 0 < left → length s ≤ at → Reached g sep s n from at left
    → [] ≡ get_or (split_parts g sep false s) n []
reached_none g sep s n from at left h k r =
    ap (λ (l : List (List ℕ)). get_or l (left - 1) []) (sym (split_after_out g sep s at k))
    ∙ get_d_next (take (at - from) (drop from s)) (split_after g sep s at) left h
    ∙ r.same

pub reached_end : (g : Bool) (sep : ℕ) (s : List ℕ) (n from at left : ℕ) → left ≤ 0 → Reached g sep s n from at left
    → take (at - from) (drop from s) ≡ get_or (split_parts g sep false s) n []
reached_end g sep s n from at left h r = let e : left ≡ 0 = omega arith in rw e at r.same

-- ---- a list cut at a separator, read one item after the other

-- the item from a place up to the next separator
abbrev pub item_at : List ℕ → ℕ → ℕ → List ℕ
item_at v from e = take (e - from) (drop from v)

-- the next separator stands at or behind the place, and no further than the end
pub item_rises : (sep : ℕ) (v : List ℕ) (from e : ℕ) → e ≡ next_place false sep v from → from ≤ e
item_rises sep v from e q = omega (arith, next_place_ge false sep v from)

pub item_inside : (sep : ℕ) (v : List ℕ) (from e : ℕ) → from ≤ length v → e ≡ next_place false sep v from → e ≤ length v
item_inside sep v from e h q = omega (arith, next_place_le false sep v from h)

-- from a place on: one item, and those behind the next separator
pub item_first : (sep : ℕ) (v : List ℕ) (from e : ℕ) → from ≤ length v → e ≡ next_place false sep v from
    → plain_split sep (drop from v) ≡ item_at v from e ∷ split_after false sep v e
unfolding plain_split
item_first sep v from e h q =
    parts_from false sep v from h ∙ ap (λ (i : ℕ). item_at v from i ∷ split_after false sep v i) (sym q)

-- where there is a separator, the rest of the list stands behind it
pub item_more : (sep : ℕ) (v : List ℕ) (from e : ℕ) → from ≤ length v → e ≡ next_place false sep v from → e < length v
    → plain_split sep (drop from v) ≡ item_at v from e ∷ plain_split sep (drop (e + 1) v)
unfolding plain_split
item_more sep v from e h q k =
    item_first sep v from e h q ∙ ap (λ (r : List (List ℕ)). item_at v from e ∷ r) (split_after_in false sep v e k)

-- where there is none, nothing is left
pub item_last : (sep : ℕ) (v : List ℕ) (from e : ℕ) → from ≤ length v → e ≡ next_place false sep v from → length v ≤ e
    → plain_split sep (drop from v) ≡ item_at v from e ∷ []
item_last sep v from e h q k =
    item_first sep v from e h q ∙ ap (λ (r : List (List ℕ)). item_at v from e ∷ r) (split_after_out false sep v e k)

-- there is a separator exactly where the bytes before it are fewer than all
pub cut_test : (sep : ℕ) (s a : List ℕ) → a ≡ before false sep s → ltb (length a) (length s) ≡ ltb (first_outside false sep false s) (length s)
unfolding before
cut_test sep s a e =
    ap (λ (x : List ℕ). ltb (length x) (length s)) e
    ∙ ap (λ (n : ℕ). ltb n (length s)) (length-take-le (first_outside false sep false s) s (first_outside_le false sep false s))

-- up to the place of the separator stand the bytes before it
pub taken_before : (sep : ℕ) (s : List ℕ) (k : ℕ) → k ≡ next_place false sep s 0 → take k s ≡ before false sep s
taken_before sep s k q = ap (λ (i : ℕ). take i s) q ∙ before_is false sep s
