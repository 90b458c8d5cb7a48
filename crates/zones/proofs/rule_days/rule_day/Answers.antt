-- `zones::rule_days::rule_day` meets its contract: the days handed to `nth_weekday` are those of the month.
use native.Mathlib.Omega.{arith}
use Rattle.time.proofs.DaysLaws.{days_before_year_small, days_before_month_small, month_days_small}
use Rattle.zones.proofs.RuleDays.{rule_day_by}
use Rattle.zones.proofs.rule_days.rule_day.Goals as goal

pub overflow_add-s : goal.overflow_add-s
overflow_add-s c = omega (arith, days_before_year_small _ c.requires.y_bound, days_before_month_small c.args.y _ c.requires.good_part.month_good)

pub nth_weekday-requires : goal.nth_weekday-requires
nth_weekday-requires c =
    let year = days_before_year_small _ c.requires.y_bound in
    let month = days_before_month_small c.args.y _ c.requires.good_part.month_good in
    let days = month_days_small c.args.y _ c.requires.good_part.month_good in
    let good = c.requires.good_part in
    record {
      s_bound = omega (arith, year, month);
      n_bound = omega (arith, days);
      weekday_bound = omega (arith, good);
      others_bound = omega (arith, good);
    }

pub returns : goal.returns
returns c =
    rule_day_by c.args.p _ _ _ _ _
    c.days_before_year.ensures
    c.days_before_month.ensures
    c.month_days.ensures
    c.nth_weekday.ensures
