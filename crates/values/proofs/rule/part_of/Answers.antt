-- `values::rule::part_of` meets its contract: the place of the sign tells whether there is one, and where name and value stand.
use Rattle.values.proofs.RuleLaws.{part_of_unsigned, part_of_named, part_of_unnamed}
use Rattle.line.proofs.Splitting.{before_fits}
use mathlib.Core.Path.{◌∙◌}
use Rattle.values.proofs.rule.part_of.Goals as goal

pub returns-then-s-e : goal.returns-then-s-e
returns-then-s-e c = part_of_unsigned _ _ _ c.find-e.ensures c.if-s-e.true

pub slice_bounds-name-end : goal.slice_bounds-name-end
slice_bounds-name-end c = before_fits _ _ c.args.s.now _ c.find-e.ensures

pub returns-then-is_name : goal.returns-then-is_name
returns-then-is_name c =
    let sign = c.find-e.ensures in
    let inside = c.if-s-e.false in
    let tested = c.is_name.ensures in
    let named = c.if-is_name.true in
    c.named_part.ensures ∙ part_of_named _ _ _ sign _ inside tested named

pub returns : goal.returns
returns c = part_of_unnamed _ _ _ c.find-e.ensures _ c.if-s-e.false c.is_name.ensures c.if-is_name.false
