-- Bytes stored one after the other: what is left to store, one part copied over, and two runs as one.
use Prim.Native.Nat.{ℕ, suc, ◌+◌, ◌≤◌, ◌<◌}
use mathlib.Core.Path.{◌≡◌, refl, sym, ap, ◌∙◌}
use mathlib.Core.List.{List, [], ◌∷◌, ◌++◌}
use native.Mathlib.Omega.{arith}
use lib.ListN.{length, take, drop, get_or, set}
use lib.Seq.{sets}
use borrow.Rule.Slice.PartMut.{put_mid}
use Rattle.std.proofs.Common.{append_assoc}
use Rattle.std.proofs.lemmas.List.{drop-drop}
use Rattle.std.proofs.lemmas.List.Edits.{sets-eq}
use Rattle.ascii.proofs.Lists.{drop_next, drop_end}

-- the loop that stores s from a on: all is left at the start, one less after each store, none at the end
pub sets_start : (o s : List ℕ) (a : ℕ) → sets o (a + 0) (drop 0 s) ≡ sets o a s
sets_start o s a = ap (λ (i : ℕ). sets o i s) (let z : a + 0 ≡ a = omega arith in z)

pub sets_next : (o s : List ℕ) (a i : ℕ) → i < length s
    → sets (set o (a + i) (get_or s i 0)) (a + (i + 1)) (drop (i + 1) s) ≡ sets o (a + i) (drop i s)
sets_next o s a i h =
    rw (drop_next s i h) (ap (λ (k : ℕ). sets (set o (a + i) (get_or s i 0)) k (drop (i + 1) s)) (let z : a + (i + 1) ≡ suc (a + i) = omega arith in z))

pub sets_end : (o s : List ℕ) (a i : ℕ) → length s ≤ i → sets o (a + i) (drop i s) ≡ o
sets_end o s a i h = rw (drop_end s i h)

-- a part of k bytes from a on that becomes s
pub sets_part : (o s : List ℕ) (a : ℕ) {k : ℕ} {w : List ℕ} → k ≡ length s → w ≡ s → a + length s ≤ length o → put_mid a k o w ≡ sets o a s
sets_part o s a {k} {w} e f h =
    ap (λ l. take a o ++ (w ++ l)) (drop-drop k a o)
    ∙ rw (f, e) (sym (append_assoc (take a o) s _))
    ∙ sym (sets-eq s o a h)

-- one run behind another
pub sets_append : (o x y : List ℕ) (a n : ℕ) → length x ≡ n → sets (sets o a x) (a + n) y ≡ sets o a (x ++ y)
sets_append o [] y a n e = ap (λ (i : ℕ). sets o i y) (let z : a + n ≡ a = omega arith in z)
sets_append o (b ∷ x) y a n e =
    ap (λ (i : ℕ). sets (sets o a (b ∷ x)) i y) (let z : a + n ≡ suc a + length x = omega arith in z)
    ∙ sets_append (set o a b) x y (suc a) (length x) refl
