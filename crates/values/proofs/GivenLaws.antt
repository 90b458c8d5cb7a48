-- Laws of what was given: of a list of all, once is a list of one.
use Rattle.std.specs.Prelude.{None, Some}
use Prim.Native.Nat.{ℕ}
use mathlib.Core.Path.{◌≡◌, refl, sym, ap, ◌∙◌}
use mathlib.Core.List.{List, [], ◌∷◌}
use native.Mathlib.Omega.{arith}
use Rattle.values.specs.declared.given.Given.{Given}
use Rattle.values.specs.Given.{given_more, given_once, given_all}

-- several stay several
pub several_stay : {T : Type 0} (xs : List T) → given_all Given.Several xs ≡ Given.Several
unfolding given_more
several_stay [] = refl
several_stay (x ∷ xs) = several_stay xs

several_once : {A T : Type 0} {x : T} → ◌≡◌ {A = Given T} Given.Several (Given.One x) → A
several_once e = let z : ◌≡◌ {A = ℕ} 0 1 = cc in absurd (omega arith)

-- once is a list of one
pub given_one : {T : Type 0} (xs : List T) (x : T) → given_all Given.None xs ≡ Given.One x → xs ≡ x ∷ []
unfolding given_more
given_one [] x e = let z : ◌≡◌ {A = ℕ} 0 1 = cc in absurd (omega arith)
given_one (y ∷ []) x e = let z : y ≡ x = cc in ap (λ k. k ∷ []) z
given_one (y ∷ z ∷ xs) x e = several_once (sym (several_stay xs) ∙ e)

-- what is answered as given once was given once
pub once_is : {T : Type 0} (g : Given T) (x : T) → given_once g ≡ Some x → g ≡ Given.One x
unfolding given_once
once_is Given.None x e = let z : ◌≡◌ {A = ℕ} 0 1 = cc in absurd (omega arith)
once_is (Given.One y) x e = let z : y ≡ x = cc in ap Given.One z
once_is Given.Several x e = let z : ◌≡◌ {A = ℕ} 0 1 = cc in absurd (omega arith)
