-- How often something was given: one more, and what was given where it was once; and the same for the reader, over the list of all.
use Rattle.std.specs.Prelude.{List, [], ◌∷◌, None, Option, Some}
use Rattle.values.specs.declared.given.Given.{Given}

-- one more; of several none is kept
unfoldable pub given_more : {T : Type 0} → Given T → T → Given T
given_more Given.None x = Given.One x
given_more (Given.One y) x = Given.Several
given_more Given.Several x = Given.Several

unfoldable pub given_once : {T : Type 0} → Given T → Option T
given_once Given.None = None
given_once (Given.One x) = Some x
given_once Given.Several = None

-- one after the other
abbrev pub given_all : {T : Type 0} → Given T → List T → Given T
given_all g [] = g
given_all g (x ∷ xs) = given_all (given_more g x) xs
