-- What a line says, read from its bytes (document 01, Lines): total, on lines that are badly formed too.
-- On a line of the grammar it is the grammar's reading.
use Rattle.std.specs.Prelude.{ℕ, ◌+◌, ◌<◌, ◌≡◌, Bool, true, false, cond, ◌&&◌, ◌||◌, List, [], ◌∷◌, ◌++◌, map, eqb, ltb, length, drop, get_or}
use Rattle.ascii.specs.Names.{same_name}
use Rattle.line.specs.Grammar.{Parameter, ContentLine, parameter, content_line}
use Rattle.line.specs.Splitting.{before, after, split_parts, quotes_off}
use Rattle.line.specs.declared.read.Usage.{Usage}

-- the first element, and all but the first
abbrev pub first_of : List (List ℕ) → List ℕ
first_of [] = []
first_of (p ∷ ps) = p

abbrev pub rest_of : List (List ℕ) → List (List ℕ)
rest_of [] = []
rest_of (p ∷ ps) = ps

-- name and parameters, up to the line's colon; the value, after it
unfoldable pub head_of : List ℕ → List ℕ
head_of l = before true 58 l

unfoldable pub value_of : List ℕ → List ℕ
value_of l = after true 58 l

-- up to the first semicolon of the head
unfoldable pub name_of : List ℕ → List ℕ
name_of l = before true 59 (head_of l)

-- the parameters as they are written, `name=values`
unfoldable pub parameter_texts : List ℕ → List (List ℕ)
parameter_texts l = rest_of (split_parts true 59 false (head_of l))

-- the values of a parameter, quotes taken off
unfoldable pub values_of : List ℕ → List (List ℕ)
values_of t = map quotes_off (split_parts true 44 false (after true 61 t))

-- the name of a parameter, up to its equals sign
unfoldable pub parameter_name : List ℕ → List ℕ
parameter_name t = before true 61 t

-- does the parameter have the name n, without regard to ASCII case?
unfoldable pub is_named : List ℕ → List ℕ → Bool
is_named n t = same_name (parameter_name t) n

-- a parameter, and a whole line
unfoldable pub parameter_of : List ℕ → Parameter
parameter_of t = parameter (parameter_name t) (values_of t)

unfoldable pub line_of : List ℕ → ContentLine
line_of l = content_line (name_of l) (map parameter_of (parameter_texts l)) (value_of l)

-- is there a colon right behind the name, which is n bytes long? (past the end `get_or` gives 0)
unfoldable pub is_plain_at : List ℕ → ℕ → Bool
is_plain_at l n = eqb (get_or l n 0) 58

-- the line's colon stands right behind its name, which is n bytes long (law `plain_at`)
pub record Plain (l : List ℕ) (n : ℕ) : Type 0 where
  pub inside : n < length l
  pub no_parameters_holds : (line_of l).parameters ≡ []
  pub value_behind : value_of l ≡ drop (n + 1) l

-- the parameters of a name, in their order
abbrev pub keep_if : Bool → Parameter → List Parameter → List Parameter
keep_if true p ps = p ∷ ps
keep_if false p ps = ps

unfoldable pub parameters_named : List ℕ → List Parameter → List Parameter
parameters_named n [] = []
parameters_named n (p ∷ ps) = keep_if (same_name p.name n) p (parameters_named n ps)

-- does one of them have more than one value ("as a list")?
unfoldable pub some_list : List Parameter → Bool
some_list [] = false
some_list (p ∷ ps) = ltb 1 (length p.values) || some_list ps

-- how often a parameter of the name stands ("twice"), and whether one stands as a list
unfoldable pub usage_of : List ℕ → List Parameter → Usage
usage_of n ps = record { times = length (parameters_named n ps); listed = some_list (parameters_named n ps) }

-- the values of these parameters, pooled
unfoldable pub pooled : List Parameter → List (List ℕ)
pooled [] = []
pooled (p ∷ ps) = p.values ++ pooled ps

-- the values of all parameters of a name
unfoldable pub values_named : List ℕ → List Parameter → List (List ℕ)
values_named n ps = pooled (parameters_named n ps)

-- the count with one more parameter, where that has the name
unfoldable pub counted_with : List ℕ → Usage → Parameter → Usage
counted_with n u p = cond (same_name p.name n) (record { times = u.times + 1; listed = u.listed || ltb 1 (length p.values) }) u

-- some parameter of the line has the name
unfoldable pub has_parameter : List ℕ → ContentLine → Bool
has_parameter n x = ltb 0 (length (parameters_named n x.parameters))

-- two or more have it ("twice")
unfoldable pub has_twice : List ℕ → ContentLine → Bool
has_twice n x = ltb 1 (length (parameters_named n x.parameters))

-- one that has it has more than one value ("as a list")
unfoldable pub has_list : List ℕ → ContentLine → Bool
has_list n x = some_list (parameters_named n x.parameters)

-- the first value of the first parameter of the name; empty, where there is none
unfoldable pub first_value : List ℕ → ContentLine → List ℕ
first_value n x = first_of (values_named n x.parameters)

-- each parameter has a value
unfoldable pub all_valued : List Parameter → Bool
all_valued [] = true
all_valued (p ∷ ps) = ltb 0 (length p.values) && all_valued ps
