-- `time::date_time::date_at` meets its contract: each way out is a case of the three numbers.
use Rattle.time.specs.DateTime.{date_at}
use Rattle.time.proofs.DateTime.{year_at_small, three_first, three_second, three_third, three_all}
use mathlib.Core.Path.{sym, ◌∙◌}
use Rattle.time.proofs.date_time.date_at.Goals as goal

pub returns-in_err-year : goal.returns-in_err-year
unfolding date_at
returns-in_err-year c = c.from_residual.ensures ∙ three_first _ _ _ _ (sym c.year_at.ensures ∙ c.in_err-year.was)

pub returns-in_err-month : goal.returns-in_err-month
unfolding date_at
returns-in_err-month c =
    c.from_residual-in_err-month.ensures ∙ three_second _ _ _ _ (sym c.year_at.ensures ∙ c.in_ok-year.was) (sym c.pair_at.ensures ∙ c.in_err-month.was)

pub returns-in_err-day : goal.returns-in_err-day
unfolding date_at
returns-in_err-day c =
    let month = sym c.pair_at.ensures ∙ c.in_ok-month.was in
    c.from_residual-in_err-day.ensures ∙ three_third _ _ _ _ (sym c.year_at.ensures ∙ c.in_ok-year.was) month (sym c.pair_at-2.ensures ∙ c.in_err-day.was)

pub checked_day-requires : goal.checked_day-requires
checked_day-requires c = year_at_small _ _ (sym c.year_at.ensures ∙ c.in_ok-year.was)

pub returns : goal.returns
unfolding date_at
returns c =
    let month = sym c.pair_at.ensures ∙ c.in_ok-month.was in
    let day = sym c.pair_at-2.ensures ∙ c.in_ok-day.was in
    c.checked_day.ensures ∙ three_all _ _ _ _ (sym c.year_at.ensures ∙ c.in_ok-year.was) month day
