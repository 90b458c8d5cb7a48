-- The grammar of a content line, for the reader (document 01, Lines): a name, parameters each with values, a colon, the value.
-- `LineGrammar l x` says that the bytes l are the line x. The scanner and the readers that the code uses are proved to agree with it.
use Rattle.std.specs.Prelude.{ℕ, ◌≤◌, ◌≡◌, Bool, true, not, ◌||◌, List, [], ◌∷◌, ◌++◌, eqb, length}
use Rattle.ascii.specs.Bytes.{is_control}
use Rattle.ascii.specs.Names.{is_name, every}

-- what a content line says: each parameter with its values, quotes taken off
pub record Parameter : Type 0 where
  pub name : List ℕ
  pub values : List (List ℕ)

pub record ContentLine : Type 0 where
  pub name : List ℕ
  pub parameters : List Parameter
  pub value : List ℕ

abbrev pub parameter : List ℕ → List (List ℕ) → Parameter
parameter n vs = record { name = n; values = vs }

abbrev pub content_line : List ℕ → List Parameter → List ℕ → ContentLine
content_line n ps v = record { name = n; parameters = ps; value = v }

-- a byte between the quotes of a parameter value: no quote, no control
unfoldable pub is_quotable : ℕ → Bool
is_quotable b = not (eqb b 34 || is_control b)

-- a byte of a parameter value without quotes: no quote, semicolon, colon, comma or control
unfoldable pub is_unquoted : ℕ → Bool
is_unquoted b = not (eqb b 34 || eqb b 59 || eqb b 58 || eqb b 44 || is_control b)

-- a byte of the property value: no control
unfoldable pub is_value_byte : ℕ → Bool
is_value_byte b = not (is_control b)

-- one parameter value as it is written, and what it says
pub data ParameterValue : List ℕ → List ℕ → Type 0 where
  quoted : (v : List ℕ) → every is_quotable v ≡ true → ParameterValue (34 ∷ (v ++ (34 ∷ []))) v
  unquoted : (v : List ℕ) → every is_unquoted v ≡ true → ParameterValue v v

-- one or more values, a comma between two
pub data ParameterValues : List ℕ → List (List ℕ) → Type 0 where
  one : {t v : List ℕ} → ParameterValue t v → ParameterValues t (v ∷ [])
  comma : {t v r : List ℕ} {vs : List (List ℕ)} → ParameterValue t v → ParameterValues r vs → ParameterValues (t ++ (44 ∷ r)) (v ∷ vs)

-- any number of `;name=values`
pub data Parameters : List ℕ → List Parameter → Type 0 where
  none : Parameters [] []
  semicolon : {n t r : List ℕ} {vs : List (List ℕ)} {ps : List Parameter} → is_name n ≡ true → ParameterValues t vs → Parameters r ps
      → Parameters (59 ∷ (n ++ (61 ∷ (t ++ r)))) (parameter n vs ∷ ps)

-- a line has at most 1,024 bytes
pub data LineGrammar : List ℕ → ContentLine → Type 0 where
  colon : {n p v : List ℕ} {ps : List Parameter} → is_name n ≡ true → Parameters p ps → every is_value_byte v ≡ true
      → length (n ++ (p ++ (58 ∷ v))) ≤ 1024 → LineGrammar (n ++ (p ++ (58 ∷ v))) (content_line n ps v)
