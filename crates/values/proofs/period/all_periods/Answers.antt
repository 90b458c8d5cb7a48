-- `values::period::all_periods` meets its contract: each piece between commas is asked.
use Rattle.std.proofs.Common.{rules, ap, ◌∙◌}
use Rattle.std.proofs.lemmas.Iterator.Search.{all_from_yields_List}
use Rattle.std.proofs.lemmas.Iterator.Splits.{YieldsList-from_slice_split}
use Rattle.std.specs.List.{list_all}
use borrow.Author.Tests.{tests}
use lib.Dec.{eqb}
use Rattle.line.specs.Splitting.{plain_split}
use Rattle.values.specs.Period.{period_of, period_items, is_period}
use Rattle.values.proofs.Splits.{split_same, periods_all}
use Rattle.values.proofs.period.all_periods.Goals as goal

pub returns : goal.returns
unfolding period_items
returns c =
    all_from_yields_List (λ t. is_period (period_of t)) _ _ _ c.all.ensures.ran
    (YieldsList-from_slice_split _ (λ b. eqb b 44) c.args.v.now c.split.ensures.rest c.split.ensures.done c.split.ensures.closure (λ x b q k. search (rules, tests)))
    (λ x b q k. search (rules, tests))
    ∙ ap (list_all (λ t. is_period (period_of t))) (split_same 44 c.args.v.now)
    ∙ periods_all (plain_split 44 c.args.v.now)
