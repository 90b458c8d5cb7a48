-- A rendered line is a line of the grammar, so it is well formed and reads as the line that was rendered.
use Prim.Native.Nat.{ℕ, ◌<◌}
use mathlib.Core.Path.{◌≡◌, refl}
use mathlib.Core.Bool.{Bool, true, false, cond, ◌&&◌}
use mathlib.Core.List.{List, [], ◌∷◌, ◌++◌}
use native.Mathlib.Omega.{arith}
use lib.Dec.{ltb}
use lib.ListN.{length}
use borrow.Author.Tests.{ltb-true}
use Rattle.ascii.specs.Names.{is_name, every}
use Rattle.ascii.proofs.Bools.{and_left, and_right}
use Rattle.text.specs.Lines.{every_line}
use Rattle.line.specs.Grammar.{Parameter, ContentLine, is_quotable, is_unquoted, ParameterValue, ParameterValues, Parameters, LineGrammar, quoted, unquoted, one, comma, none, semicolon, colon}
use Rattle.line.specs.Scanner.{is_well_formed}
use Rattle.line.specs.Reading.{line_of}
use Rattle.line.specs.Rendering.{rendered_value, rendered_values, rendered_parameters, rendered, can_render, can_render_all, Renderable, AllRenderable, no_line, one_more}
use Rattle.line.proofs.Grammar.{grammar_well_formed}
use Rattle.line.proofs.Reading.{grammar_read}

rendered_value_lem : (v : List ℕ) → every is_quotable v ≡ true → ParameterValue (rendered_value v) v
unfolding rendered_value
rendered_value_lem v q = go (every is_unquoted v) refl
  where
    go : (t : Bool) → every is_unquoted v ≡ t → ParameterValue (cond t v (34 ∷ (v ++ (34 ∷ [])))) v
    go true e = unquoted v e
    go false e = quoted v q

rendered_values_lem : (vs : List (List ℕ)) → 0 < length vs → every_line (every is_quotable) vs ≡ true → ParameterValues (rendered_values vs) vs
unfolding rendered_values
rendered_values_lem [] h q = absurd (omega arith)
rendered_values_lem (v ∷ []) h q = one (rendered_value_lem v (and_left (every is_quotable v) _ q))
rendered_values_lem (v ∷ w ∷ vs) h q =
    comma (rendered_value_lem v (and_left (every is_quotable v) _ q)) (rendered_values_lem (w ∷ vs) (omega arith) (and_right (every is_quotable v) _ q))

rendered_parameters_lem : (ps : List Parameter) → can_render_all ps ≡ true → Parameters (rendered_parameters ps) ps
unfolding rendered_parameters can_render_all can_render
rendered_parameters_lem [] e = none
rendered_parameters_lem (p ∷ ps) e =
    let k : can_render p ≡ true = and_left (can_render p) _ e in
    let m : (ltb 0 (length p.values) && every_line (every is_quotable) p.values) ≡ true = and_right (is_name p.name) _ k in
    semicolon
    (and_left (is_name p.name) _ k)
    (rendered_values_lem p.values (ltb-true _ _ (and_left (ltb 0 (length p.values)) _ m)) (and_right (ltb 0 (length p.values)) _ m))
    (rendered_parameters_lem ps (and_right (can_render p) _ e))

pub rendered_grammar : {x : ContentLine} → Renderable x → LineGrammar (rendered x) x
unfolding rendered
rendered_grammar {x} k = colon k.name (rendered_parameters_lem x.parameters k.parameters) k.value k.fits

pub rendered_well_formed : {x : ContentLine} → Renderable x → is_well_formed (rendered x) ≡ true
rendered_well_formed k = grammar_well_formed (rendered_grammar k)

pub rendered_read : {x : ContentLine} → Renderable x → line_of (rendered x) ≡ x
rendered_read k = grammar_read (rendered_grammar k)

pub renderable_append : {xs ys : List ContentLine} → AllRenderable xs → AllRenderable ys → AllRenderable (xs ++ ys)
renderable_append no_line k = k
renderable_append (one_more r h) k = one_more r (renderable_append h k)
