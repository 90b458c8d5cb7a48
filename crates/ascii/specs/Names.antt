-- Names: one or more name bytes, compared without regard to ASCII case (document 01, Lines).
use Rattle.std.specs.Prelude.{ℕ, Bool, true, false, ◌&&◌, List, [], ◌∷◌, map, eqb}
use Rattle.ascii.specs.Bytes.{upper, is_name_byte}

-- the test holds of every element
abbrev pub every : (ℕ → Bool) → List ℕ → Bool
every f [] = true
every f (b ∷ s) = f b && every f s

-- the same bytes, one by one
abbrev pub same_bytes : List ℕ → List ℕ → Bool
same_bytes [] [] = true
same_bytes [] (b ∷ t) = false
same_bytes (a ∷ s) [] = false
same_bytes (a ∷ s) (b ∷ t) = eqb a b && same_bytes s t

-- the same name: equal once ASCII case is disregarded
unfoldable pub same_name : List ℕ → List ℕ → Bool
same_name s t = same_bytes (map upper s) (map upper t)

abbrev pub not_empty : List ℕ → Bool
not_empty [] = false
not_empty (b ∷ s) = true

-- a name: name bytes, at least one
unfoldable pub is_name : List ℕ → Bool
is_name s = not_empty s && every is_name_byte s
