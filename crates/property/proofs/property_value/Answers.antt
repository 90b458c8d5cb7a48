-- `property::property_value` meets its contract: a line is read by its name, which is so many bytes of it, and behind a colon that follows the name stands its value.
use lib.Seq.{length-take-le}
use mathlib.Core.Path.{sym, ap, ◌∙◌}
use Rattle.property.proofs.Properties.{unread_line}
use native.Mathlib.Omega.{arith}
use Rattle.line.specs.Reading.{line_of}
use Rattle.line.proofs.Reading.{name_take, name_fits}
use Rattle.property.specs.Facts.{reading_of}
use Rattle.property.specs.Properties.{property_of, value_as, before_items}
use Rattle.property.specs.declared.Property.{Property}
use Rattle.std.specs.Prelude.{List, Option, Some, ℕ}
use Rattle.property.proofs.property_value.Goals as goal

pub slice_bounds-property_of-end : goal.slice_bounds-property_of-end
slice_bounds-property_of-end c = sym (length-take-le _ c.args.line.now (omega (arith, c.requires.n_value, name_fits c.args.line.now)))

pub returns-in_default : goal.returns-in_default
unfolding reading_of
returns-in_default c =
    let args = c.args in
    unread_line _ _ args.line.now
    (ap (property_of args.scope) (sym (name_take args.line.now _ c.requires.n_value)) ∙ sym c.property_of.ensures ∙ c.in_default.is)

pub returns : goal.returns
unfolding before_items line_of
returns c =
    let args = c.args in
    let named = sym c.in-Some.is ∙ c.property_of.ensures ∙ ap (property_of args.scope) (name_take args.line.now _ c.requires.n_value) in
    c.value_as.ensures
    ∙ ap (λ (t : List ℕ). value_as (Some c.in-Some.property) args.c args.scope (line_of t)) c.new.ensures
    ∙ ap (λ (p : Option Property). value_as p args.c args.scope (line_of args.line.now)) named
