-- `values::period::period_from` meets its contract: each way out is the definition's clause, and a start that is read is within the limits.
use Rattle.values.proofs.PeriodLaws.{utc_at_small}
use Rattle.values.specs.Period.{period_from}
use mathlib.Core.Path.{sym, ◌∙◌}
use Rattle.values.proofs.period.period_from.Goals as goal

pub returns-in_err-from : goal.returns-in_err-from
unfolding period_from
returns-in_err-from c = rw (sym c.utc_at.ensures ∙ c.in_err-from.was) c.from_residual.ensures

pub end_at-requires : goal.end_at-requires
end_at-requires c = utc_at_small _ _ (sym c.utc_at.ensures ∙ c.in_ok-from.was)

pub returns : goal.returns
unfolding period_from
returns c = simp (c.period_to.ensures, c.end_at.ensures, sym c.utc_at.ensures ∙ c.in_ok-from.was)
