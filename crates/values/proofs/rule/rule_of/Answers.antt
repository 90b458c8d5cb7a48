-- `values::rule::rule_of` meets its contract: the parts are those of the pieces between semicolons, one after the other.
use Rattle.std.proofs.Common.{rules, ap, ◌∙◌, ◌≡◌}
use Rattle.std.proofs.lemmas.Iterator.Consumers.{fold_from_yields_List}
use Rattle.std.proofs.lemmas.Iterator.Splits.{YieldsList-from_slice_split}
use Rattle.std.specs.List.{fold, slice_split}
use borrow.Author.Tests.{tests}
use lib.Dec.{eqb}
use mathlib.Core.List.{map}
use Rattle.values.specs.Rule.{rule_by, rule_of, part_of, no_parts, with_part, with_parts}
use Rattle.values.proofs.Splits.{split_same, parts_folded}
use Rattle.values.proofs.rule.rule_of.Goals as goal

pub returns : goal.returns
unfolding rule_of
returns c =
    let v = c.args.v.now in
    let x = c.args.c in
    let folded : c.fold-parts.result ≡ fold (λ p t. with_part p (part_of x t)) c.no_parts.result (slice_split (λ b. eqb b 59) v) =
    fold_from_yields_List _ (λ p t. with_part p (part_of x t)) _ _ c.fold-parts.ensures.ran
    (YieldsList-from_slice_split _ (λ b. eqb b 59) v c.split.ensures.rest c.split.ensures.done c.split.ensures.closure (λ x b q k. search (rules, tests)))
    (λ a y b q k. search (rules, tests))
    in
    c.rule_by.ensures
    ∙ ap rule_by
    (folded
    ∙ parts_folded x _ _
    ∙ ap (λ p. with_parts p (map (part_of x) (slice_split (λ b. eqb b 59) v))) c.no_parts.ensures
    ∙ ap (λ ts. with_parts no_parts (map (part_of x) ts)) (split_same 59 v))
