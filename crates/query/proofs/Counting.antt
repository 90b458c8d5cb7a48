-- Tests of every number below a bound, and of some number below it: what a loop over them keeps, and what they say.
use Prim.Native.Nat.{ℕ, zero, suc, ◌+◌, ◌≤◌, ◌<◌}
use mathlib.Core.Path.{◌≡◌, refl, sym, ap, subst, ◌∙◌}
use mathlib.Core.Bool.{Bool, true, false, ◌&&◌, ◌||◌}
use denote.Param.Members.{Mut}
use Rattle.std.proofs.Common.{add-zero, zero-add, add-one}
use Rattle.std.proofs.Math.Bool.{and-true, or-false, and_assoc, or_assoc}
use Rattle.std.proofs.Math.Nat.{sub-zero}
use Rattle.std.proofs.iter.Yields.{nat_range_steps}
use Rattle.std.proofs.lemmas.Iterator.{YieldsList-from_range}
use Rattle.std.proofs.lemmas.Iterator.Search.{all_from_yields_List, any_from_yields_List}
use Rattle.std.specs.declared.ops.Range.{Range}
use Rattle.std.specs.Fn.{Called}
use Rattle.std.specs.Iterator.{ChecksAll, ChecksAny}
use Rattle.std.specs.List.{list_all, list_any, range_with_len}
use native.Mathlib.Omega.{arith}
use lib.Dec.{ltb}
use borrow.Author.Tests.{ltb-true, ltb-false}
use Rattle.ascii.proofs.Bools.{and_left, and_right, and_both, clash, not_so, or_left, or_right, or_neither}
use Rattle.query.specs.Counting.{every_below, some_below}

-- what holds of each number below n, and of n, holds of each below n + 1
pub below_suc : (P : ℕ → Type 0) (n i : ℕ) → i < suc n → (i < n → P i) → P n → P i
below_suc P n i h below here = go (ltb i n) refl
  where
    go : (t : Bool) → ltb i n ≡ t → P i
    go true q = below (ltb-true i n q)
    go false q = let e : n ≡ i = omega (arith, ltb-false i n q) in subst P e here

module _ (f : ℕ → Bool) where
  -- a test of every number holds of each
  pub every_at : (n i : ℕ) → i < n → every_below n f ≡ true → f i ≡ true
  unfolding every_below
  every_at zero i h e = absurd (omega arith)
  every_at (suc n) i h e =
      below_suc (λ (k : ℕ). f k ≡ true) n i h (λ k. every_at n i k (and_left (every_below n f) (f n) e)) (and_right (every_below n f) (f n) e)

  pub every_all : (n : ℕ) → ((i : ℕ) → i < n → f i ≡ true) → every_below n f ≡ true
  unfolding every_below
  every_all zero h = refl
  every_all (suc n) h = and_both (every_all n (λ i k. h i (omega arith))) (h n (omega arith))

  -- where no number passes, none is found
  pub none_at : (n i : ℕ) → i < n → some_below n f ≡ false → f i ≡ false
  unfolding some_below
  none_at zero i h e = absurd (omega arith)
  none_at (suc n) i h e =
      below_suc (λ (k : ℕ). f k ≡ false) n i h (λ k. none_at n i k (or_left (some_below n f) (f n) e)) (or_right (some_below n f) (f n) e)

  pub none_all : (n : ℕ) → ((i : ℕ) → i < n → f i ≡ false) → some_below n f ≡ false
  unfolding some_below
  none_all zero h = refl
  none_all (suc n) h = or_neither (none_all n (λ i k. h i (omega arith))) (h n (omega arith))

-- ---- what a loop over n numbers keeps

-- at number k, the test has given b of every one before
pub record SoFar (b : Bool) (f : ℕ → Bool) (n k : ℕ) : Type 0 where
  pub within : k ≤ n
  pub each : (i : ℕ) → i < k → f i ≡ b

pub so_far_start : {b : Bool} {f : ℕ → Bool} {n : ℕ} → SoFar b f n 0
so_far_start = record { within = omega arith; each = λ i h. absurd (omega arith) }

-- t is what it gives of k
module _ {b : Bool} {f : ℕ → Bool} {n k : ℕ} {t : Bool} (w : SoFar b f n k) (h : k < n) (q : t ≡ f k) where
  pub so_far_next : t ≡ b → SoFar b f n (k + 1)
  so_far_next e =
      record { within = omega arith; each = λ i l. below_suc (λ (j : ℕ). f j ≡ b) k i (omega arith) (λ m. w.each i m) (sym q ∙ e) }

  pub every_stop : t ≡ false → false ≡ every_below n f
  every_stop e = sym (not_so (every_below n f) (λ y. clash (every_at f n k h y) (sym q ∙ e)))

  pub some_found : t ≡ true → true ≡ some_below n f
  some_found e = go (some_below n f) refl
    where
      go : (y : Bool) → some_below n f ≡ y → true ≡ some_below n f
      go true y = sym y
      go false y = clash (sym q ∙ e) (none_at f n k h y)

-- no number is left
module _ {f : ℕ → Bool} {n k : ℕ} where
  pub every_end : SoFar true f n k → n ≤ k → true ≡ every_below n f
  every_end w h = sym (every_all f n (λ i l. w.each i (omega arith)))

  pub none_end : SoFar false f n k → n ≤ k → false ≡ some_below n f
  none_end w h = sym (none_all f n (λ i l. w.each i (omega arith)))

-- ---- what `all` and `any` over the numbers below n answer

module _ (f : ℕ → Bool) where
  every_on : (a n : ℕ) → every_below (a + n) f ≡ (every_below a f && list_all f (range_with_len a n))
  unfolding every_below
  every_on a zero = rw add-zero (sym (and-true (every_below a f)))
  every_on a (suc n) =
      ap (λ m. every_below m f) (let e : a + suc n ≡ (a + 1) + n = omega arith in e)
      ∙ every_on (a + 1) n
      ∙ rw add-one (and_assoc (every_below a f) (f a) _)

  some_on : (a n : ℕ) → some_below (a + n) f ≡ (some_below a f || list_any f (range_with_len a n))
  unfolding some_below
  some_on a zero = rw add-zero (sym (or-false (some_below a f)))
  some_on a (suc n) =
      ap (λ m. some_below m f) (let e : a + suc n ≡ (a + 1) + n = omega arith in e)
      ∙ some_on (a + 1) n
      ∙ rw add-one (or_assoc (some_below a f) (f a) _)

-- g is the test that is called, and each call gives what f does
module _ {F : Type 0} {g : Mut F (ℕ × Unit {0}) Bool} {s u : Range ℕ} {h : F} {r : Bool} (f : ℕ → Bool) (n : ℕ) (e : s ≡ record { start = 0; end = n })
    (gives : (x : ℕ) (b : Bool) (q : F) → Called g h (x, tt) b q → (q ≡ h) × (b ≡ f x)) where
  pub all_below : ChecksAll nat_range_steps g s h r u → r ≡ every_below n f
  unfolding every_below
  all_below ran =
      all_from_yields_List f _ _ _ ran (YieldsList-from_range 0 n n e (sub-zero n)) gives
      ∙ sym (every_on f 0 n)
      ∙ ap (λ m. every_below m f) (zero-add n)

  pub any_below : ChecksAny nat_range_steps g s h r u → r ≡ some_below n f
  unfolding some_below
  any_below ran =
      any_from_yields_List f _ _ _ ran (YieldsList-from_range 0 n n e (sub-zero n)) gives
      ∙ sym (some_on f 0 n)
      ∙ ap (λ m. some_below m f) (zero-add n)
