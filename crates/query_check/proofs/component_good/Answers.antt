-- `query_check::component_good` meets its contract: a good name is the number of a text, and without one the component is not good.
use Rattle.query_check.proofs.WellFormed.{name_below, component_named, component_unnamed}
use mathlib.Core.Path.{sym, ◌∙◌}
use Rattle.query_check.proofs.component_good.Goals as goal

pub parent_good-requires : goal.parent_good-requires
parent_good-requires c = name_below _ c.args.q.now.sections _ (sym c.name_good.ensures ∙ c.if-not-name_good.false)

pub returns : goal.returns
returns c =
    let sections = c.args.q.now.sections in
    let asked = c.args.r in
    let named = sym c.name_good.ensures ∙ c.if-not-name_good.false in
    let children = c.has_child_component.ensures in
    let properties = c.has_property.ensures in
    let parent = c.parent_good.ensures in
    component_named _ sections _ asked named children properties parent

pub returns-then-not-name_good : goal.returns-then-not-name_good
returns-then-not-name_good c = sym (component_unnamed _ c.args.q.now.sections _ c.args.r (sym c.name_good.ensures ∙ c.if-not-name_good.true))
