-- What the tests of lists say: an element that passes, no element,
-- at most one element.
use Prim.Native.Nat.{◌≤◌}
use mathlib.Core.Path.{◌≡◌, refl, sym, ap, ◌∙◌}
use mathlib.Core.Bool.{Bool, true, false, ◌||◌}
use mathlib.Core.List.{List, [], ◌∷◌, Memᴰ}
use mathlib.Core.Logic.{◌↔◌}
use native.Mathlib.Omega.{arith}
use lib.ListN.{length}
use Rattle.ascii.proofs.Bools.{clash, not_so, or_by_left, or_by_right}
use Rattle.overrides.specs.Lists.{some, is_empty, two_or_more}

-- an element of the list that passes
pub record Passing {A : Type 0} (f : A → Bool) (l : List A) : Type 0 where
  pub which : A
  pub listed : Memᴰ which l
  pub passes : f which ≡ true

module _ {A : Type 0} (f : A → Bool) where
  pub some_by : {a : A} {l : List A} → Memᴰ a l → f a ≡ true → some f l ≡ true
  unfolding some
  some_by (Memᴰ.head {xs = xs} e) h = or_by_left (some f xs) (ap f (sym e) ∙ h)
  some_by (Memᴰ.tail {x = x} m) h = or_by_right (f x) (some_by m h)

  some_found : (l : List A) → some f l ≡ true → Passing f l
  unfolding some
  some_found [] h = clash h refl
  some_found (a ∷ l) h = go (f a) refl (some_found l) h
    where
      go : (t : Bool) → f a ≡ t → (some f l ≡ true → Passing f l) → (t || some f l) ≡ true → Passing f (a ∷ l)
      go true q below h = record { which = a; listed = Memᴰ.head refl; passes = q }
      go false q below h = let p = below h in record { which = p.which; listed = Memᴰ.tail p.listed; passes = p.passes }

  pub some_iff : (l : List A) → (some f l ≡ true) ↔ Passing f l
  some_iff l = (some_found l, λ p. some_by p.listed p.passes)

  pub none_iff : (l : List A) → (some f l ≡ false) ↔ ((a : A) → Memᴰ a l → f a ≡ false)
  none_iff l = (
    λ h a m. not_so (f a) (λ q. clash (some_by m q) h),
    λ n. not_so (some f l) (λ q. let p = some_found l q in clash p.passes (n p.which p.listed)),
  )

module _ {A : Type 0} where
  pub empty_iff : (l : List A) → (is_empty l ≡ true) ↔ (l ≡ [])
  unfolding is_empty
  empty_iff [] = (λ h. refl, λ h. refl)
  empty_iff (a ∷ l) = (λ h. clash h refl, λ h. absurd (omega (arith, ap length h)))

  pub one_iff : (l : List A) → (two_or_more l ≡ false) ↔ (length l ≤ 1)
  unfolding two_or_more
  one_iff [] = (λ h. omega arith, λ h. refl)
  one_iff (a ∷ []) = (λ h. omega arith, λ h. refl)
  one_iff (a ∷ b ∷ l) = (λ h. clash refl h, λ h. absurd (omega arith))

  -- a list that is not empty
  pub some_element : (l : List A) → is_empty l ≡ false → 1 ≤ length l
  unfolding is_empty
  some_element [] h = clash refl h
  some_element (a ∷ l) h = omega arith
