-- Laws of Bool tests that every layer uses: from a test to its parts and back.
use mathlib.Core.Path.{◌≡◌, refl, sym, ap, ◌∙◌}
use mathlib.Core.Bool.{Bool, true, false, ◌&&◌, ◌||◌, true≢false}

pub and_left : (a b : Bool) → (a && b) ≡ true → a ≡ true
and_left true b e = refl
and_left false b e = e

pub and_right : (a b : Bool) → (a && b) ≡ true → b ≡ true
and_right true b e = e
and_right false b e = absurd (true≢false (sym e))

pub and_both : {a b : Bool} → a ≡ true → b ≡ true → (a && b) ≡ true
and_both {a = true} p q = q
and_both {a = false} p q = p

-- true and false are apart
pub clash : {A : Type 0} {b : Bool} → b ≡ true → b ≡ false → A
clash p q = absurd (true≢false (sym p ∙ q))

-- a sum of tests fails where both fail
pub or_left : (a b : Bool) → (a || b) ≡ false → a ≡ false
or_left true b e = e
or_left false b e = refl

pub or_right : (a b : Bool) → (a || b) ≡ false → b ≡ false
or_right true b e = clash refl e
or_right false b e = e

pub or_neither : {a b : Bool} → a ≡ false → b ≡ false → (a || b) ≡ false
or_neither {a = true} p q = p
or_neither {a = false} p q = q

-- and holds where one holds
pub or_by_left : {a : Bool} (b : Bool) → a ≡ true → (a || b) ≡ true
or_by_left {a = true} b e = refl
or_by_left {a = false} b e = clash e refl

pub or_by_right : (a : Bool) {b : Bool} → b ≡ true → (a || b) ≡ true
or_by_right true e = refl
or_by_right false e = e

-- what cannot be true is false
pub not_so : (a : Bool) → (a ≡ true → ⊥) → a ≡ false
not_so true h = absurd (h refl)
not_so false h = refl

-- two tests that never hold of one byte: where the first holds, the second fails
pub apart : {A : Type 0} (p : A → Bool) (b n : A) → p b ≡ true → p n ≡ false → b ≡ n → ⊥
apart p b n h k e = true≢false (sym h ∙ ap p e ∙ k)
