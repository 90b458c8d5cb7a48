-- Ways out of the readers of arguments.
use Prim.Native.Nat.{ℕ, ◌+◌, ◌-◌, ◌*◌, ◌≤◌, ◌<◌}
use mathlib.Core.Path.{◌≡◌, refl, sym, ap, ◌∙◌}
use mathlib.Core.Bool.{Bool, true, false, cond, ◌&&◌, and-false}
use mathlib.Core.List.{List, [], ◌∷◌}
use native.Mathlib.Omega.{arith}
use lib.Dec.{leb}
use lib.IntN.{ℤ}
use lib.ListN.{length, take, drop, get_or, length-drop}
use lib.Seq.{take_all}
use borrow.Author.Tests.{le-leb, lt-leb, leb-true, leb-false, ne_eqb}
use Rattle.std.specs.Prelude.{Option, Some, None}
use Rattle.std.proofs.Common.{inl, inr}
use Rattle.std.specs.Int.{IsInRange, IsOutOfRange}
use Rattle.std.specs.Option.{SomeIff}
use Rattle.ascii.specs.Bytes.{is_digit}
use Rattle.ascii.specs.Names.{every, same_name}
use Rattle.ascii.specs.Words.{ascii}
use Rattle.ascii.proofs.Bytes.{inside, below, above}
use Rattle.ascii.proofs.Lists.{drop_next, drop_end}
use Rattle.ascii.proofs.Names.{same_name_length}
use Rattle.cli.specs.Arguments.{most, onto, decimal_onto, with_digit, decimal_of, size_of, with_sign, offset_of, is_hex_name}

-- ---- digits

-- a number only grows by what is put behind it
onto_grows : (n : ℕ) (s : List ℕ) → n ≤ onto n s
unfolding onto
onto_grows n [] = omega arith
onto_grows n (b ∷ s) = omega (arith, onto_grows (n * 10 + (b - 48)) s)

-- past the largest number no digit mends it
too_large : (n : ℕ) (s : List ℕ) → most < n → decimal_onto n s ≡ None
unfolding decimal_onto
too_large n s h =
    ap (λ (t : Bool). cond (every is_digit s && t) (Some (onto n s)) None) (lt-leb (onto n s) most (omega (arith, h, onto_grows n s)))
    ∙ ap (λ (t : Bool). cond t (Some (onto n s)) None) (and-false (every is_digit s))

pub digit_less : (n b : ℕ) → IsOutOfRange 48 57 b → None ≡ with_digit n b
unfolding with_digit decimal_onto is_digit
digit_less n b (inl h) = rw (below 48 57 b h)
digit_less n b (inr h) = rw (above 48 57 b h)

pub digit_large : (n b : ℕ) → 18446744073709551615 < n * 10 + (b - 48) → None ≡ with_digit n b
unfolding with_digit decimal_onto onto most
digit_large n b h = rw (lt-leb (n * 10 + (b - 48)) 18446744073709551615 h, and-false (is_digit b && true))

digit_of : (n b : ℕ) → 48 ≤ b → b ≤ 57 → n * 10 + (b - 48) ≤ 18446744073709551615 → Some (n * 10 + (b - 48)) ≡ with_digit n b
unfolding with_digit decimal_onto onto most is_digit
digit_of n b p q h = rw (inside 48 57 b p q, le-leb (n * 10 + (b - 48)) 18446744073709551615 h)

-- the product t and the digit d, put together
pub digit_sum : (n b : ℕ) (r : Option ℕ) {t d : ℕ} → IsInRange 48 57 b → t ≡ n * 10 → d ≡ b - 48 → SomeIff r (t + d < 18446744073709551616) (t + d) → r ≡ with_digit n b
digit_sum n b (Some x) i e f s = ap (λ (k : ℕ). Some k) (let z : x ≡ n * 10 + (b - 48) = omega (arith, s.1, e, f) in z) ∙ digit_of n b i.0 i.1 (omega (arith, s.0, e, f))
digit_sum n b None i e f s = digit_large n b (omega (arith, s, e, f))

-- what a digit that was taken says
digit_taken : (n b m : ℕ) → with_digit n b ≡ Some m → (is_digit b ≡ true) × (m ≡ n * 10 + (b - 48)) × (m ≤ 18446744073709551615)
unfolding with_digit decimal_onto onto most
digit_taken n b m e = go (is_digit b) (leb (n * 10 + (b - 48)) 18446744073709551615) refl refl e
  where
    go : (t u : Bool) → is_digit b ≡ t → leb (n * 10 + (b - 48)) 18446744073709551615 ≡ u
        → cond (t && true && u) (Some (n * 10 + (b - 48))) None ≡ Some m
        → (is_digit b ≡ true) × (m ≡ n * 10 + (b - 48)) × (m ≤ 18446744073709551615)
    go true true p q e =
        let z : n * 10 + (b - 48) ≡ m = cc in
        (p, sym z, omega (arith, z, leb-true (n * 10 + (b - 48)) 18446744073709551615 q))
    go true false p q e = let z : ◌≡◌ {A = ℕ} 0 1 = cc in absurd (omega arith)
    go false u p q e = let z : ◌≡◌ {A = ℕ} 0 1 = cc in absurd (omega arith)

-- the digits from i on, behind n, decide
pub record Digits (s : List ℕ) (n i : ℕ) : Type 0 where
  pub fits : n ≤ 18446744073709551615
  pub left : decimal_onto n (drop i s) ≡ decimal_of s

pub digits_none : (s : List ℕ) → length s ≡ 0 → None ≡ decimal_of s
unfolding decimal_of
digits_none [] h = refl
digits_none (b ∷ s) h = absurd (omega arith)

pub digits_start : (s : List ℕ) → (length s ≡ 0 → ⊥) → Digits s 0 0
unfolding decimal_of
digits_start [] h = absurd (h refl)
digits_start (b ∷ s) h = record { fits = omega arith; left = refl }

module _ {s : List ℕ} {n i : ℕ} (d : Digits s n i) where
  pub digits_more : {m : ℕ} → i < length s → with_digit n (get_or s i 0) ≡ Some m → Digits s m (i + 1)
  unfolding decimal_onto onto
  digits_more {m} h e =
      let t : (is_digit (get_or s i 0) ≡ true) × (m ≡ n * 10 + (get_or s i 0 - 48)) × (m ≤ 18446744073709551615) = digit_taken n (get_or s i 0) m e in
      record {
        fits = t.2;
        left = ap (λ (k : ℕ). decimal_onto k (drop (i + 1) s)) t.1 ∙ sym (rw (drop_next s i h, t.0)) ∙ d.left;
      }

  pub digits_stop : i < length s → with_digit n (get_or s i 0) ≡ None → None ≡ decimal_of s
  unfolding decimal_onto onto with_digit most
  digits_stop h e = sym (stop (is_digit b) (leb (n * 10 + (b - 48)) 18446744073709551615) refl refl e) ∙ d.left
    where
      b : ℕ
      b = get_or s i 0

      stop : (t u : Bool) → is_digit b ≡ t → leb (n * 10 + (b - 48)) 18446744073709551615 ≡ u
          → cond (t && true && u) (Some (n * 10 + (b - 48))) None ≡ None
          → decimal_onto n (drop i s) ≡ None
      stop true true p q e = let z : ◌≡◌ {A = ℕ} 0 1 = cc in absurd (omega arith)
      stop true false p q e =
          rw (drop_next s i h, p) (too_large (n * 10 + (b - 48)) (drop (i + 1) s) (leb-false (n * 10 + (b - 48)) 18446744073709551615 q))
      stop false u p q e = rw (drop_next s i h, p)

  pub digits_end : length s ≤ i → Some n ≡ decimal_of s
  unfolding decimal_onto onto most
  digits_end h = sym (rw (drop_end s i h, le-leb n 18446744073709551615 d.fits)) ∙ d.left

-- ---- an offset

pub offset_bare : (s : List ℕ) {r : Option ℤ} → 1 ≤ length s → (get_or s 0 0 ≡ 45 → ⊥) → (get_or s 0 0 ≡ 43 → ⊥) → r ≡ with_sign false (size_of s) → r ≡ offset_of s
unfolding offset_of
offset_bare [] h k e p = absurd (omega arith)
offset_bare (b ∷ s) h k e p = p ∙ rw (ne_eqb b 45 k, ne_eqb b 43 e)

-- ---- a name in hex

pub hex_short : (s : List ℕ) → length s < 4 → false ≡ is_hex_name s
unfolding is_hex_name
hex_short s h = sym (same_name_length (drop (length s - 4) s) (ascii ".hex") (λ e. absurd (omega (arith, e, length-drop (length s - 4) s, h))))

pub hex_end : (s : List ℕ) {r : Bool} → 4 ≤ length s → r ≡ same_name (take (length s - (length s - 4)) (drop (length s - 4) s)) (ascii ".hex") → r ≡ is_hex_name s
unfolding is_hex_name
hex_end s h e =
    e ∙ ap (λ (l : List ℕ). same_name l (ascii ".hex")) (take_all (length s - (length s - 4)) (drop (length s - 4) s) (omega (arith, length-drop (length s - 4) s)))
