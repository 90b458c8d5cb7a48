-- The offset once it is read: unsigned and at most 100,800, or out of bounds.
use Rattle.std.specs.Prelude.{None, Option, Some}
use Prim.Native.Nat.{ℕ, suc, ◌≤◌}
use mathlib.Core.Path.{◌≡◌, refl, sym, ap, ◌∙◌, subst}
use mathlib.Core.Bool.{Bool, true, false, and-false}
use mathlib.Core.Logic.{◌↔◌}
use native.Mathlib.Omega.{arith}
use lib.Dec.{T, leb}
use lib.IntN.{ℤ, pos, negsuc, nat_abs, ◌+ℤ◌}
use lib.Signed.{lt_z, le_z, non_neg}
use mir.Syntax.{w64}
use mir.Val.{SFits, Fits, to_z, of_z}
use mir.ValLaws.{to_z-of_z}
use borrow.Author.Tests.{ltb-true, ltb-false, le-leb, lt-leb, le-ltb, leb-true}
use Rattle.ascii.proofs.Bools.{and_left, and_right, and_both, clash}
use Rattle.refusals.specs.Offsets.{offset_good, OffsetWithin, shift_of, offset_read}

-- ---- a test and its opposite

not_below : (a b : ℤ) → lt_z a b ≡ true → le_z b a ≡ false
not_below (pos a) (pos b) e = lt-leb b a (ltb-true a b e)
not_below (pos a) (negsuc b) e = clash e refl
not_below (negsuc a) (pos b) e = refl
not_below (negsuc a) (negsuc b) e = lt-leb a b (ltb-true b a e)

at_least : (a b : ℤ) → lt_z a b ≡ false → le_z b a ≡ true
at_least (pos a) (pos b) e = le-leb b a (ltb-false a b e)
at_least (pos a) (negsuc b) e = refl
at_least (negsuc a) (pos b) e = clash refl e
at_least (negsuc a) (negsuc b) e = le-leb a b (ltb-false b a e)

-- ---- the offset and 50,400

sum_is : (o : ℤ) → le_z (negsuc 50399) o ≡ true → o +ℤ pos 50400 ≡ pos (shift_of o)
unfolding shift_of
sum_is (pos n) e = ap pos (omega arith)
sum_is (negsuc n) e = rw (le-ltb 50400 (suc n) (omega (arith, leb-true n 50399 e)))

shift_most : (o : ℤ) → le_z o (pos 50400) ≡ true → shift_of o ≤ 100800
unfolding shift_of
shift_most (pos n) e = omega (arith, leb-true n 50400 e)
shift_most (negsuc n) e = omega arith

-- a good offset is at most 100,800 then
pub shift_small : (o : ℤ) → offset_good o ≡ true → shift_of o ≤ 100800
unfolding offset_good
shift_small o e = shift_most o (and_right (le_z (negsuc 50399) o) _ e)

pub within_iff : (o : ℤ) → (offset_good o ≡ true) ↔ OffsetWithin o
unfolding offset_good
within_iff (pos n) = (λ e. leb-true n 50400 e, λ h. le-leb n 50400 h)
within_iff (negsuc n) = (
  λ e. let h = leb-true n 50399 (and_left (leb n 50399) true e) in omega (arith, h),
  λ h. and_both (le-leb n 50399 (omega (arith, h))) refl,
)

-- ---- what was read tells whether the offset is good

pub read_good : {s : ℕ} (o : ℤ) → offset_read o ≡ Some s → (offset_good o ≡ true) × (s ≡ shift_of o)
unfolding offset_read
read_good {s} o e = go (offset_good o) refl
  where
    go : (t : Bool) → offset_good o ≡ t → (offset_good o ≡ true) × (s ≡ shift_of o)
    go true k = let h : Some (shift_of o) ≡ Some s = rw k at e in (k, cc)
    go false k = let h : None ≡ Some s = rw k at e in let z : ◌≡◌ {A = ℕ} 0 1 = cc in absurd (omega arith)

pub read_out : (o : ℤ) → offset_read o ≡ None → offset_good o ≡ false
unfolding offset_read
read_out o e = go (offset_good o) refl
  where
    go : (t : Bool) → offset_good o ≡ t → offset_good o ≡ false
    go true k = let h : Some (shift_of o) ≡ None = rw k at e in let z : ◌≡◌ {A = ℕ} 0 1 = cc in absurd (omega arith)
    go false k = k

pub shift_bound : {s : ℕ} (o : ℤ) → offset_read o ≡ Some s → s ≤ 100800
shift_bound o e = rw (read_good o e).1 (shift_small o (read_good o e).0)

-- what was read of z, the number that the machine reads back from the bits of the offset, was read of the offset
pub offset_given : {z o : ℤ} {r x : Option ℕ} → z ≡ o → r ≡ offset_read z → r ≡ x → offset_read o ≡ x
offset_given e k h = ap offset_read (sym e) ∙ sym k ∙ h

-- ---- the reader's ways out

module _ {z o : ℤ} (e : z ≡ o) where
  pub too_low : lt_z z (negsuc 50399) ≡ true → None ≡ offset_read o
  unfolding offset_read offset_good
  too_low k = rw (not_below o (negsuc 50399) (ap (λ (v : ℤ). lt_z v (negsuc 50399)) (sym e) ∙ k))

  pub too_high : lt_z (pos 50400) z ≡ true → None ≡ offset_read o
  unfolding offset_read offset_good
  too_high k =
      rw (not_below (pos 50400) o (ap (lt_z (pos 50400)) (sym e) ∙ k), and-false (le_z (negsuc 50399) o))

  module _ (low : lt_z z (negsuc 50399) ≡ false) (high : lt_z (pos 50400) z ≡ false) where
    from_low : le_z (negsuc 50399) o ≡ true
    from_low = at_least o (negsuc 50399) (ap (λ (v : ℤ). lt_z v (negsuc 50399)) (sym e) ∙ low)

    to_high : le_z o (pos 50400) ≡ true
    to_high = at_least (pos 50400) o (ap (lt_z (pos 50400)) (sym e) ∙ high)

    pub sum_shift : z +ℤ pos 50400 ≡ pos (shift_of o)
    sum_shift = ap (λ (v : ℤ). v +ℤ pos 50400) e ∙ sum_is o from_low

    pub sum_fits : SFits w64 (z +ℤ pos 50400)
    sum_fits = subst (SFits w64) (sym sum_shift) (record { sfits = omega (arith, shift_most o to_high) })

    pub sum_back : to_z w64 (of_z w64 (z +ℤ pos 50400)) ≡ pos (shift_of o)
    sum_back = to_z-of_z w64 (z +ℤ pos 50400) sum_fits ∙ sum_shift

    pub cast_fits : T (non_neg (to_z w64 (of_z w64 (z +ℤ pos 50400)))) × Fits w64 (nat_abs (to_z w64 (of_z w64 (z +ℤ pos 50400))))
    cast_fits =
        subst (λ (v : ℤ). T (non_neg v) × Fits w64 (nat_abs v)) (sym sum_back)
        (tt, record { fits = omega (arith, shift_most o to_high) })

    pub in_bounds : Some (nat_abs (to_z w64 (of_z w64 (z +ℤ pos 50400)))) ≡ offset_read o
    unfolding offset_read offset_good
    in_bounds = ap (λ (v : ℤ). Some (nat_abs v)) sum_back ∙ rw (from_low, to_high)
