-- `values::period::end_at` meets its contract: each way out is the definition's clause, and a start with a duration is small.
use Rattle.values.proofs.PeriodLaws.{read_duration_small}
use Rattle.values.specs.Period.{end_by}
use mathlib.Core.Path.{sym, ◌∙◌}
use native.Mathlib.Omega.{arith}
use Rattle.values.proofs.period.end_at.Goals as goal

pub returns-in-Some : goal.returns-in-Some
unfolding end_by
returns-in-Some c = rw (sym c.utc_at.ensures ∙ c.in-Some.is)

pub returns-in_err-length : goal.returns-in_err-length
unfolding end_by
returns-in_err-length c = rw (sym c.utc_at.ensures ∙ c.in_default.is, sym c.read_duration.ensures ∙ c.in_err-length.was) c.from_residual.ensures

pub duration_seconds-requires : goal.duration_seconds-requires
duration_seconds-requires c =
    let small = read_duration_small _ _ (sym c.read_duration.ensures ∙ c.in_ok-length.was) in
    omega (arith, small.few_days, small.few_seconds)

pub overflow_add-result : goal.overflow_add-result
overflow_add-result c = omega (arith, c.duration_seconds.ensures, (read_duration_small _ _ (sym c.read_duration.ensures ∙ c.in_ok-length.was)).limited)

pub returns : goal.returns
unfolding end_by
returns c = rw (sym c.utc_at.ensures ∙ c.in_default.is, sym c.read_duration.ensures ∙ c.in_ok-length.was, c.duration_seconds.ensures)
