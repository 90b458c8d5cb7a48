-- Text in a value, by a collation (document 01, The query paper): where a property or parameter value contains a text.
use Rattle.std.specs.Prelude.{ℕ, ◌≡◌, Bool, true, false, ◌&&◌, ◌||◌, List, [], ◌∷◌, ◌++◌, map, eqb, drop}
use Rattle.ascii.specs.Bytes.{upper}
use Rattle.text.specs.declared.Collation.{Collation}
use Rattle.text.specs.declared.Collation.TheVariants.{Octet, AsciiCasemap}

-- i;octet leaves a byte as it is, i;ascii-casemap reads a to z as A to Z
unfoldable pub folded_by : Collation → ℕ → ℕ
folded_by Octet b = b
folded_by AsciiCasemap b = upper b

-- the value begins with the text
abbrev pub starts_with : List ℕ → List ℕ → Bool
starts_with [] v = true
starts_with (a ∷ t) [] = false
starts_with (a ∷ t) (b ∷ v) = eqb a b && starts_with t v

-- at some place the value goes on with the text; an empty text stands in every value
abbrev pub contains_bytes : List ℕ → List ℕ → Bool
contains_bytes [] t = starts_with t []
contains_bytes (b ∷ v) t = starts_with t (b ∷ v) || contains_bytes v t

-- the value contains the text, byte by byte once both are folded by the collation
unfoldable pub contains : Collation → List ℕ → List ℕ → Bool
contains c v t = contains_bytes (map (folded_by c) v) (map (folded_by c) t)

-- the value goes on with the text at one place
unfoldable pub starts_at : Collation → List ℕ → List ℕ → ℕ → Bool
starts_at c v t at = starts_with (map (folded_by c) t) (map (folded_by c) (drop at v))

-- the same without a search: the value in three parts, the middle one equal to the text by the collation
pub record Occurs (c : Collation) (v t : List ℕ) : Type 0 where
  pub before : List ℕ
  pub found : List ℕ
  pub after : List ℕ
  pub parts : v ≡ before ++ (found ++ after)
  pub same : map (folded_by c) found ≡ map (folded_by c) t
