-- `query_check::query_good` meets its contract: sections that were read lie inside the query, so that their records can be read.
use Rattle.query.proofs.LayoutLaws.{sections_fit}
use Rattle.query_check.proofs.WellFormed.{query_of, query_none}
use mathlib.Core.Path.{sym, ◌∙◌}
use Rattle.query_check.proofs.query_good.Goals as goal

pub invariant_of-records_good : goal.invariant_of-records_good
invariant_of-records_good c = record { fits = sections_fit _ _ (sym c.sections_of.ensures ∙ c.in-Some.is) }

pub returns : goal.returns
returns c = query_of _ (sym c.sections_of.ensures ∙ c.in-Some.is) c.records_good-good.ensures

pub returns-in_default : goal.returns-in_default
returns-in_default c = sym (query_none _ (sym c.sections_of.ensures ∙ c.in_default.is))
