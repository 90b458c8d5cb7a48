-- Ways through the decoder of hex: what is left of the text, and of the bytes to store, makes the whole.
use Prim.Native.Nat.{ℕ, suc, ◌+◌, ◌-◌, ◌≤◌, ◌<◌}
use mathlib.Core.Path.{◌≡◌, refl, sym, ap, ◌∙◌}
use mathlib.Core.Bool.{Bool, true, false, cond}
use mathlib.Core.List.{List, [], ◌∷◌}
use native.Mathlib.Omega.{arith}
use lib.ListN.{length, take, drop, get_or, set, length-set}
use lib.Seq.{sets, take-nil}
use borrow.Author.Tests.{lt-ltb, le-ltb, leb-true, ltb-false}
use Rattle.ascii.specs.Bytes.{between}
use Rattle.ascii.proofs.Bools.{and_right}
use lib.Dec.{leb, ltb}
use Rattle.std.specs.Prelude.{Some, None, Result, Ok, Err}
use Rattle.ascii.proofs.Lists.{drop_next, drop_end}
use Rattle.cli.specs.declared.hex.Place.{Place}
use Rattle.cli.specs.declared.hex.Step.{Step}
use Rattle.cli.specs.declared.hex.HexError.{HexError}
use Rattle.cli.specs.Hex.{hex_digit, step_of, bytes_from, good_from, at_end, decoded_of, Decodes}

-- ---- a digit

pub digit_small : (b : ℕ) {d : ℕ} → Some d ≡ hex_digit b → d ≤ 15
unfolding hex_digit
digit_small b {d} e = go (between 48 57 b) (between 65 70 b) (between 97 102 b) refl refl refl e
  where
    go : (t u v : Bool) → between 48 57 b ≡ t → between 65 70 b ≡ u → between 97 102 b ≡ v
        → Some d ≡ cond t (Some (b - 48)) (cond u (Some (b - 55)) (cond v (Some (b - 87)) None)) → d ≤ 15
    go true u v p q r e = let z : d ≡ b - 48 = cc in omega (arith, leb-true b 57 (and_right (leb 48 b) (leb b 57) p), z)
    go false true v p q r e = let z : d ≡ b - 55 = cc in omega (arith, leb-true b 70 (and_right (leb 65 b) (leb b 70) q), z)
    go false false true p q r e = let z : d ≡ b - 87 = cc in omega (arith, leb-true b 102 (and_right (leb 97 b) (leb b 102) r), z)
    go false false false p q r e = let z : ◌≡◌ {A = ℕ} 0 1 = cc in absurd (omega arith)

-- ---- the loop

-- n bytes are stored, and what the text from i on writes, read from p, is left to store
pub record Storing (s o₀ o : List ℕ) (p : Place) (n i : ℕ) : Type 0 where
  pub room : n ≤ length o₀
  pub long : length o ≡ length o₀
  pub count : n + length (bytes_from p (drop i s)) ≡ length (bytes_from Place.Between s)
  pub good : good_from p (drop i s) ≡ good_from Place.Between s
  pub output : sets o n (take (length o₀ - n) (bytes_from p (drop i s))) ≡ sets o₀ 0 (take (length o₀) (bytes_from Place.Between s))

-- what one byte does to the bytes that are written, and to whether all is good
module _ (p : Place) (b : ℕ) (s : List ℕ) where
  bytes_to : {q : Place} → step_of p b ≡ Some (Step.To q) → bytes_from p (b ∷ s) ≡ bytes_from q s
  unfolding bytes_from
  bytes_to e = rw (e, bytes_from)

  bytes_byte : {x : ℕ} → step_of p b ≡ Some (Step.Byte x) → bytes_from p (b ∷ s) ≡ x ∷ bytes_from Place.Between s
  unfolding bytes_from
  bytes_byte e = rw (e, bytes_from)

  bytes_wrong : step_of p b ≡ None → bytes_from p (b ∷ s) ≡ []
  unfolding bytes_from
  bytes_wrong e = rw (e, bytes_from)

  good_to : {q : Place} → step_of p b ≡ Some (Step.To q) → good_from p (b ∷ s) ≡ good_from q s
  unfolding good_from
  good_to e = rw (e, good_from)

  good_byte : {x : ℕ} → step_of p b ≡ Some (Step.Byte x) → good_from p (b ∷ s) ≡ good_from Place.Between s
  unfolding good_from
  good_byte e = rw (e, good_from)

  good_wrong : step_of p b ≡ None → good_from p (b ∷ s) ≡ false
  unfolding good_from
  good_wrong e = rw (e, good_from)

pub storing_start : (s o : List ℕ) → Storing s o o Place.Between 0 0
storing_start s o =
    record {
      room = omega arith;
      long = refl;
      count = omega arith;
      good = refl;
      output = ap (λ (k : ℕ). sets o 0 (take k (bytes_from Place.Between s))) (let z : length o - 0 ≡ length o = omega arith in z);
    }

-- a byte that is passed
pub storing_pass : {s o₀ o : List ℕ} {p q : Place} {n i : ℕ} → Storing s o₀ o p n i → i < length s → step_of p (get_or s i 0) ≡ Some (Step.To q)
    → Storing s o₀ o q n (i + 1)
storing_pass {s} {o₀} {o} {p} {q} {n} {i} w h e =
    record {
      room = w.room;
      long = w.long;
      count = ap (λ (l : List ℕ). n + length l) (sym same) ∙ w.count;
      good = sym same_good ∙ w.good;
      output = ap (λ (l : List ℕ). sets o n (take (length o₀ - n) l)) (sym same) ∙ w.output;
    }
  where
    same : bytes_from p (drop i s) ≡ bytes_from q (drop (i + 1) s)
    same = ap (bytes_from p) (drop_next s i h) ∙ bytes_to p (get_or s i 0) (drop (i + 1) s) e

    same_good : good_from p (drop i s) ≡ good_from q (drop (i + 1) s)
    same_good = ap (good_from p) (drop_next s i h) ∙ good_to p (get_or s i 0) (drop (i + 1) s) e

-- a byte that completes a byte, which is stored
pub storing_byte : {s o₀ o : List ℕ} {p : Place} {n i x : ℕ} → Storing s o₀ o p n i → i < length s → step_of p (get_or s i 0) ≡ Some (Step.Byte x)
    → (n ≡ length o → ⊥) → Storing s o₀ (set o n x) Place.Between (n + 1) (i + 1)
storing_byte {s} {o₀} {o} {p} {n} {i} {x} w h e k =
    record {
      room = omega (arith, w.room, w.long, k);
      long = length-set o n x ∙ w.long;
      count = omega (arith, w.count, ap (λ (l : List ℕ). length l) same);
      good = sym same_good ∙ w.good;
      output =
          ap (λ (j : ℕ). sets (set o n x) j (take (length o₀ - (n + 1)) rest)) (let z : n + 1 ≡ suc n = omega arith in z)
          ∙ ap (λ (j : ℕ). sets o n (take j (x ∷ rest))) (let z : suc (length o₀ - (n + 1)) ≡ length o₀ - n = omega (arith, w.room, w.long, k) in z)
          ∙ ap (λ (l : List ℕ). sets o n (take (length o₀ - n) l)) (sym same)
          ∙ w.output;
    }
  where
    rest : List ℕ
    rest = bytes_from Place.Between (drop (i + 1) s)

    same : bytes_from p (drop i s) ≡ x ∷ bytes_from Place.Between (drop (i + 1) s)
    same = ap (bytes_from p) (drop_next s i h) ∙ bytes_byte p (get_or s i 0) (drop (i + 1) s) e

    same_good : good_from p (drop i s) ≡ good_from Place.Between (drop (i + 1) s)
    same_good = ap (good_from p) (drop_next s i h) ∙ good_byte p (get_or s i 0) (drop (i + 1) s) e

-- there is no room for the next byte
pub storing_full : {s o₀ o : List ℕ} {p : Place} {n i x : ℕ} → Storing s o₀ o p n i → i < length s → step_of p (get_or s i 0) ≡ Some (Step.Byte x)
    → n ≡ length o → Decodes s o₀ o (Err HexError.TooLong)
unfolding decoded_of
storing_full {s} {o₀} {o} {p} {n} {i} {x} w h e k =
    record {
      answer = rw (lt-ltb (length o₀) (length (bytes_from Place.Between s)) more);
      output = ap (λ (j : ℕ). sets o n (take j (bytes_from p (drop i s)))) (let z : 0 ≡ length o₀ - n = omega (arith, k, w.long) in z) ∙ w.output;
    }
  where
    same : bytes_from p (drop i s) ≡ x ∷ bytes_from Place.Between (drop (i + 1) s)
    same = ap (bytes_from p) (drop_next s i h) ∙ bytes_byte p (get_or s i 0) (drop (i + 1) s) e

    more : length o₀ < length (bytes_from Place.Between s)
    more = omega (arith, w.count, w.long, k, ap (λ (l : List ℕ). length l) same)

-- nothing more is stored
done : {s o₀ o : List ℕ} {p : Place} {n i : ℕ} (r : Result ℕ HexError) → Storing s o₀ o p n i → bytes_from p (drop i s) ≡ []
    → r ≡ cond (good_from p (drop i s)) (Ok n) (Err HexError.Bad) → Decodes s o₀ o r
unfolding decoded_of
done {s} {o₀} {o} {p} {n} {i} r w e a =
    record {
      answer = a ∙ rw (le-ltb (length o₀) (length (bytes_from Place.Between s)) (omega (arith, many, w.room)), w.good, many);
      output = sym (ap (λ (l : List ℕ). sets o n l) (ap (λ (l : List ℕ). take (length o₀ - n) l) e ∙ take-nil (length o₀ - n))) ∙ w.output;
    }
  where
    many : n ≡ length (bytes_from Place.Between s)
    many = omega (arith, w.count, ap (λ (l : List ℕ). length l) e)

pub storing_wrong : {s o₀ o : List ℕ} {p : Place} {n i : ℕ} → Storing s o₀ o p n i → i < length s → step_of p (get_or s i 0) ≡ None
    → Decodes s o₀ o (Err HexError.Bad)
storing_wrong {s} {p = p} {n} {i} w h e =
    done (Err HexError.Bad) w
    (ap (bytes_from p) (drop_next s i h) ∙ bytes_wrong p (get_or s i 0) (drop (i + 1) s) e)
    (sym (ap (λ (t : Bool). cond t (Ok n) (Err HexError.Bad)) (ap (good_from p) (drop_next s i h) ∙ good_wrong p (get_or s i 0) (drop (i + 1) s) e)))

pub storing_end : {s o₀ o : List ℕ} {p : Place} {n i : ℕ} {r : Result ℕ HexError} → Storing s o₀ o p n i → length s ≤ i → r ≡ at_end p n → Decodes s o₀ o r
unfolding bytes_from good_from at_end
storing_end {s} {p = p} {n} {i} {r} w h a =
    done r w (ap (bytes_from p) (drop_end s i h)) (a ∙ sym (ap (λ (l : List ℕ). cond (good_from p l) (Ok n) (Err HexError.Bad)) (drop_end s i h)))

-- ---- its answer

-- what was decoded lies within the output
pub decoded_within : {s o o' : List ℕ} {r : Result ℕ HexError} {n : ℕ} → Decodes s o o' r → r ≡ Ok n → n ≤ length o
unfolding decoded_of
decoded_within {s} {o} {n = n} d e = go (ltb (length o) k) (good_from Place.Between s) refl (sym e ∙ d.answer)
  where
    k : ℕ
    k = length (bytes_from Place.Between s)

    go : (t u : Bool) → ltb (length o) k ≡ t → Ok n ≡ cond t (Err HexError.TooLong) (cond u (Ok k) (Err HexError.Bad)) → n ≤ length o
    go false true p q = let z : n ≡ k = cc in omega (arith, z, ltb-false (length o) k p)
    go false false p q = let z : ◌≡◌ {A = ℕ} 0 1 = cc in absurd (omega arith)
    go true u p q = let z : ◌≡◌ {A = ℕ} 0 1 = cc in absurd (omega arith)
