-- Laws of parts of a column: a part by what stands up to its end, and parts of a column whose end was written anew.
use Prim.Native.Nat.{ℕ, zero, suc, ◌+◌, ◌-◌, ◌≤◌}
use mathlib.Core.Path.{◌≡◌, sym, ap, ◌∙◌}
use mathlib.Core.List.{List, [], ◌∷◌, ◌++◌}
use native.Mathlib.Omega.{arith}
use lib.ListN.{length, take, drop}
use lib.Seq.{take-nil, drop_at, length-take-le, take-append-le, take-take}
use Rattle.text.specs.Lines.{part}

drop_take : (f n : ℕ) (e : List ℕ) → take n (drop f e) ≡ drop f (take (f + n) e)
drop_take zero n e = ap (λ (k : ℕ). take k e) (let z : n ≡ 0 + n = omega arith in z)
drop_take (suc f) n [] = take-nil n ∙ sym (ap (drop (suc f)) (take-nil (suc f + n)))
drop_take (suc f) n (x ∷ xs) = drop_take f n xs ∙ ap (λ (k : ℕ). drop (suc f) (take k (x ∷ xs))) (let z : suc (f + n) ≡ suc f + n = omega arith in z)

pub part_taken : (e : List ℕ) (f t : ℕ) → f ≤ t → part e f t ≡ drop f (take t e)
part_taken e f t h = drop_take f (t - f) e ∙ ap (λ (k : ℕ). drop f (take k e)) (let z : f + (t - f) ≡ t = omega arith in z)

-- a part before what was written stays
pub part_before : (l o : List ℕ) (at f t : ℕ) → f ≤ t → t ≤ at → at ≤ length l → part (take at l ++ o) f t ≡ part l f t
part_before l o at f t a b h =
    part_taken (take at l ++ o) f t a
    ∙ ap (drop f) (take-append-le t (take at l) o (omega (arith, length-take-le at l h)) ∙ take-take t at l b)
    ∙ sym (part_taken l f t a)

-- a part that starts where it was written
pub part_written : (l o : List ℕ) (at n : ℕ) {t : ℕ} → t ≡ at + n → at ≤ length l → part (take at l ++ o) at t ≡ take n o
part_written l o at n {t} q h =
    ap (λ (k : ℕ). take k (drop at (take at l ++ o))) (let z : t - at ≡ n = omega arith in z) ∙ ap (take n) (drop_at (take at l) o at (length-take-le at l h))

-- nothing stands between a place and itself
pub part_none : (l : List ℕ) (a : ℕ) {t : ℕ} → t ≡ a → part l a t ≡ []
part_none l a {t} q = ap (λ (k : ℕ). take k (drop a l)) (let z : t - a ≡ 0 = omega arith in z)
