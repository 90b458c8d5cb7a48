-- `property::type_by` meets its contract: a line with one parameter has the type BUSY where that is not FBTYPE; else its value decides.
use mathlib.Core.Path.{sym, ◌∙◌}
use Rattle.property.specs.Facts.{reading_of}
use Rattle.property.proofs.Properties.{one_other, one_list, one_type}
use Rattle.property.proofs.type_by.Goals as goal

pub returns-then-not-is_named : goal.returns-then-not-is_named
unfolding reading_of
returns-then-not-is_named c = λ x e. one_other c.args.p.now x e (sym c.is_named.ensures ∙ c.if-not-is_named.true)

pub returns-then-value_count-gt1 : goal.returns-then-value_count-gt1
unfolding reading_of
returns-then-value_count-gt1 c =
    let parameter = c.args.p.now in
    let named = sym c.is_named.ensures ∙ c.if-not-is_named.false in
    let counted = c.value_count.ensures in
    let many = c.if-value_count-gt1.true in
    λ x e. one_list parameter x e named counted many

pub returns : goal.returns
unfolding reading_of
returns c =
    let args = c.args in
    let is_named = c.is_named in
    let value_count = c.value_count in
    λ x e. one_type args.p.now x e (sym is_named.ensures ∙ c.if-not-is_named.false) value_count.ensures c.if-value_count-gt1.false
    c.parameter_value.ensures c.busy_named.ensures
