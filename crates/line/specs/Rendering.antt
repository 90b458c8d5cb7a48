-- How a content line is written (document 01, Lines), for what the report writes and a reader reads back.
use Rattle.std.specs.Prelude.{ℕ, ◌≤◌, ◌≡◌, Bool, true, cond, ◌&&◌, List, [], ◌∷◌, ◌++◌, ltb, length}
use Rattle.ascii.specs.Names.{is_name, every}
use Rattle.text.specs.Lines.{every_line}
use Rattle.line.specs.Grammar.{Parameter, ContentLine, is_quotable, is_unquoted, is_value_byte}

-- a parameter value as it is, or between quotes where it holds a byte that may not stand without them
unfoldable pub rendered_value : List ℕ → List ℕ
rendered_value v = cond (every is_unquoted v) v (34 ∷ (v ++ (34 ∷ [])))

-- values, a comma between two
unfoldable pub rendered_values : List (List ℕ) → List ℕ
rendered_values [] = []
rendered_values (v ∷ []) = rendered_value v
rendered_values (v ∷ w ∷ vs) = rendered_value v ++ (44 ∷ rendered_values (w ∷ vs))

-- `;name=values` for each
unfoldable pub rendered_parameters : List Parameter → List ℕ
rendered_parameters [] = []
rendered_parameters (p ∷ ps) = 59 ∷ (p.name ++ (61 ∷ (rendered_values p.values ++ rendered_parameters ps)))

-- name, parameters, colon, value
unfoldable pub rendered : ContentLine → List ℕ
rendered x = x.name ++ (rendered_parameters x.parameters ++ (58 ∷ x.value))

-- a parameter has a name, one or more values, and in these no quote and no control
unfoldable pub can_render : Parameter → Bool
can_render p = is_name p.name && (ltb 0 (length p.values) && every_line (every is_quotable) p.values)

-- each parameter of a list can be written so
unfoldable pub can_render_all : List Parameter → Bool
can_render_all [] = true
can_render_all (p ∷ ps) = can_render p && can_render_all ps

-- a line that can be written so that it is read back
pub record Renderable (x : ContentLine) : Type 0 where
  pub name : is_name x.name ≡ true
  pub parameters : can_render_all x.parameters ≡ true
  pub value : every is_value_byte x.value ≡ true
  pub fits : length (rendered x) ≤ 1024

-- each line of a list can
pub data AllRenderable : List ContentLine → Type 0 where
  no_line : AllRenderable []
  one_more : {x : ContentLine} {xs : List ContentLine} → Renderable x → AllRenderable xs → AllRenderable (x ∷ xs)
