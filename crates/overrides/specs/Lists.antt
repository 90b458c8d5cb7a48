-- Tests of lists that the rules of VEVENTs are made of:
-- does an element pass, is there no element, are there two.
use Rattle.std.specs.Prelude.{Bool, true, false, ◌||◌, List, [], ◌∷◌}

module _ {A : Type 0} where
  -- an element passes the test
  unfoldable pub some : (A → Bool) → List A → Bool
  some f [] = false
  some f (a ∷ l) = f a || some f l

  unfoldable pub is_empty : List A → Bool
  is_empty [] = true
  is_empty (a ∷ l) = false

  unfoldable pub two_or_more : List A → Bool
  two_or_more [] = false
  two_or_more (a ∷ []) = false
  two_or_more (a ∷ b ∷ l) = true
