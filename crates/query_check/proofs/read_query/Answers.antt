-- `query_check::read_query` meets its contract: a good query has its sections, and they lie inside it.
use Rattle.query.proofs.LayoutLaws.{sections_fit}
use Rattle.query_check.proofs.WellFormed.{query_none, query_records, read_bad, read_misplaced, read_of}
use mathlib.Core.Path.{sym, ◌∙◌}
use Rattle.query_check.proofs.read_query.Goals as goal

pub returns-then-not-query_good : goal.returns-then-not-query_good
returns-then-not-query_good c = sym (read_bad _ (sym c.query_good.ensures ∙ c.if-not-query_good.true))

pub invariant_of-range_misplaced : goal.invariant_of-range_misplaced
invariant_of-range_misplaced c = record { fits = sections_fit _ _ (sym c.sections_of.ensures ∙ c.in-Some.is) }

pub range_misplaced-requires : goal.range_misplaced-requires
range_misplaced-requires c =
    let good = sym c.query_good.ensures ∙ c.if-not-query_good.false in
    query_records _ _ (sym c.sections_of.ensures ∙ c.in-Some.is) good

pub returns-then-range_misplaced : goal.returns-then-range_misplaced
returns-then-range_misplaced c =
    let good = sym c.query_good.ensures ∙ c.if-not-query_good.false in
    let sections = sym c.sections_of.ensures ∙ c.in-Some.is in
    let misplaced = sym c.range_misplaced.ensures ∙ c.if-range_misplaced.true in
    sym (read_misplaced _ _ sections good misplaced)

pub returns : goal.returns
returns c =
    let good = sym c.query_good.ensures ∙ c.if-not-query_good.false in
    let sections = sym c.sections_of.ensures ∙ c.in-Some.is in
    let in_place = sym c.range_misplaced.ensures ∙ c.if-range_misplaced.false in
    sym (read_of _ _ sections good in_place)

pub returns-in_default : goal.returns-in_default
returns-in_default c = sym (read_bad _ (query_none _ (sym c.sections_of.ensures ∙ c.in_default.is)))
