-- `time::date_time::year_at` meets its contract: each way out is a case of the two pairs, each at most 99.
use Rattle.time.specs.DateTime.{year_at}
use Rattle.time.proofs.DateTime.{pair_at_small, joined_first, joined_second, joined_both}
use mathlib.Core.Path.{sym, ◌∙◌}
use native.Mathlib.Omega.{arith}
use Rattle.time.proofs.date_time.year_at.Goals as goal

pub overflow_mul-result : goal.overflow_mul-result
overflow_mul-result c = omega (arith, pair_at_small _ _ _ (sym c.pair_at.ensures ∙ c.in_ok-hundreds.was))

pub overflow_add-result : goal.overflow_add-result
overflow_add-result c = omega (arith, pair_at_small _ _ _ (sym c.pair_at.ensures ∙ c.in_ok-hundreds.was), pair_at_small _ _ _ (sym c.pair_at-2.ensures ∙ c.in_ok-rest.was))

pub returns-in_err-hundreds : goal.returns-in_err-hundreds
unfolding year_at
returns-in_err-hundreds c = c.from_residual.ensures ∙ joined_first _ _ (sym c.pair_at.ensures ∙ c.in_err-hundreds.was)

pub returns-in_err-rest : goal.returns-in_err-rest
unfolding year_at
returns-in_err-rest c = c.from_residual-in_err-rest.ensures ∙ joined_second _ _ (sym c.pair_at.ensures ∙ c.in_ok-hundreds.was) (sym c.pair_at-2.ensures ∙ c.in_err-rest.was)

pub returns : goal.returns
unfolding year_at
returns c = joined_both _ _ (sym c.pair_at.ensures ∙ c.in_ok-hundreds.was) (sym c.pair_at-2.ensures ∙ c.in_ok-rest.was)
