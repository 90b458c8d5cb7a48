-- Laws of places: where a loop that goes from a place to the end of a list stops.
use Prim.Native.Nat.{ℕ, ◌≤◌, max}
use mathlib.Core.Path.{◌≡◌, refl, subst}
use mathlib.Core.Bool.{Bool, true, false}
use native.Mathlib.Omega.{arith}
use lib.Dec.{ltb}
use borrow.Author.Tests.{ltb-true, ltb-false}

-- it stops at the end, or where it began, if that is no nearer
pub stops : (P : ℕ → Type 0) (from end i r : ℕ) → r ≡ max from end → (from ≤ end → i ≤ end) → end ≤ i → (end ≤ from → P from) → P i → P r
stops P from end i r e most least p q = go (ltb end from) refl
  where
    go : (t : Bool) → ltb end from ≡ t → P r
    go true h =
        let same : from ≡ r = omega (arith, e, ltb-true end from h) in
        subst P same (p (omega (arith, ltb-true end from h)))
    go false h =
        let within : from ≤ end = ltb-false end from h in
        let same : i ≡ r = omega (arith, e, most within) in
        subst P same q
