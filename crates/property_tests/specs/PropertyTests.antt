-- Property and parameter tests (document 01, The query paper) on the lines directly in one component.
use Rattle.std.specs.Prelude.{ℕ, zero, suc, Bool, true, false, cond, not, ◌&&◌, ◌||◌, List, [], ◌∷◌, eqb}
use Rattle.ascii.specs.Names.{same_name}
use Rattle.text.specs.TextMatch.{contains}
use Rattle.text.specs.declared.Collation.{Collation}
use Rattle.line.specs.Grammar.{ContentLine}
use Rattle.line.specs.Reading.{has_parameter, values_named}
use Rattle.nesting.specs.Components.{Numbered}
use Rattle.query.specs.Records.{text_of, property_at, parameter_at}
use Rattle.query.specs.Counting.{every_below, implies}
use Rattle.query.specs.declared.Sections.{Sections}
use Rattle.query.specs.declared.PropertyRecord.{PropertyRecord}
use Rattle.query.specs.declared.ParameterRecord.{ParameterRecord}

-- the collation of a record: 0 is i;octet, 1 i;ascii-casemap
unfoldable pub collation_of : ℕ → Collation
collation_of zero = Collation.Octet
collation_of (suc n) = Collation.AsciiCasemap

-- does a value hold up against a record's text? Flag 2 asks that it does not contain it; without a text any value does
unfoldable pub text_holds : List ℕ → Sections → ℕ → ℕ → ℕ → List ℕ → Bool
text_holds s q zero c f v = true
text_holds s q (suc t) c f v = cond (eqb f 2) (not (contains (collation_of c) v (text_of s q t))) (contains (collation_of c) v (text_of s q t))

-- the bytes of a record's text, 0 for none
unfoldable pub text_or : List ℕ → Sections → ℕ → List ℕ
text_or s q zero = []
text_or s q (suc t) = text_of s q t

-- the same test with the bytes of text t at hand
unfoldable pub text_passes : ℕ → List ℕ → ℕ → ℕ → List ℕ → Bool
text_passes zero w c f v = true
text_passes (suc t) w c f v = cond (eqb f 2) (not (contains (collation_of c) v w)) (contains (collation_of c) v w)

-- some one value holds up
unfoldable pub some_value : List ℕ → Sections → ParameterRecord → List (List ℕ) → Bool
some_value s q r [] = false
some_value s q r (v ∷ vs) = text_holds s q r.text r.collation r.flag v || some_value s q r vs

-- the same with the bytes of the record's text at hand
unfoldable pub some_passes : ParameterRecord → List ℕ → List (List ℕ) → Bool
some_passes r w [] = false
some_passes r w (v ∷ vs) = text_passes r.text w r.collation r.flag v || some_passes r w vs

-- a parameter test on one line: flag 1 asks that no parameter has the name
unfoldable pub parameter_holds : List ℕ → Sections → ContentLine → ParameterRecord → Bool
parameter_holds s q x r =
    cond (eqb r.flag 1) (not (has_parameter (text_of s q r.name) x)) (some_value s q r (values_named (text_of s q r.name) x.parameters))

-- parameter record k, where it is one of property record i
unfoldable pub parameter_passes : List ℕ → Sections → ℕ → ContentLine → ℕ → Bool
parameter_passes s q i x k = implies (eqb (parameter_at s q k).property i) (parameter_holds s q x (parameter_at s q k))

-- every parameter test of property record i
unfoldable pub parameters_hold : List ℕ → Sections → ℕ → ContentLine → Bool
parameters_hold s q i x = every_below q.parameters.count (parameter_passes s q i x)

-- one line has the name
unfoldable pub some_named : List ℕ → List Numbered → Bool
some_named n [] = false
some_named n (x ∷ xs) = same_name x.line.name n || some_named n xs

-- a line has the name, its value holds up, and that same line passes every parameter test
unfoldable pub line_holds : List ℕ → Sections → ℕ → PropertyRecord → ContentLine → Bool
line_holds s q i r x =
    same_name x.name (text_of s q r.name) && text_holds s q r.text r.collation r.flag x.value && parameters_hold s q i x

unfoldable pub some_line : List ℕ → Sections → ℕ → PropertyRecord → List Numbered → Bool
some_line s q i r [] = false
some_line s q i r (x ∷ xs) = line_holds s q i r x.line || some_line s q i r xs

unfoldable pub property_holds : List ℕ → Sections → ℕ → PropertyRecord → List Numbered → Bool
property_holds s q i r xs = cond (eqb r.flag 1) (not (some_named (text_of s q r.name) xs)) (some_line s q i r xs)

-- property record i, where it is one of component record k
unfoldable pub property_passes : List ℕ → Sections → ℕ → List Numbered → ℕ → Bool
property_passes s q k xs i = implies (eqb (property_at s q i).component k) (property_holds s q i (property_at s q i) xs)

-- every property test of component record k
unfoldable pub properties_hold : List ℕ → Sections → ℕ → List Numbered → Bool
properties_hold s q k xs = every_below q.properties.count (property_passes s q k xs)
