-- `time::date_time::checked_day` meets its contract: the three ways out are the definition's tests; a day that is there is in one of twelve months, so that the sums fit.
use Rattle.time.proofs.DateTime.{day_parts, checked_day_below, checked_day_above, checked_day_of}
use Rattle.time.proofs.DaysLaws.{month_days_month}
use native.Mathlib.Omega.{arith}
use Rattle.time.proofs.date_time.checked_day.Goals as goal

pub returns-then-d-lt1 : goal.returns-then-d-lt1
returns-then-d-lt1 c = checked_day_below _ _ _ c.if-d-lt1.true

pub returns-then-month_days-d : goal.returns-then-month_days-d
returns-then-month_days-d c = checked_day_above _ _ _ _ c.if-d-lt1.false c.month_days.ensures c.if-month_days-d.true

pub days_before_month-requires : goal.days_before_month-requires
days_before_month-requires c = month_days_month _ _ _ _ c.if-d-lt1.false c.month_days.ensures c.if-month_days-d.false

pub overflow_add-result : goal.overflow_add-result
overflow_add-result c = omega (arith, (let in_month = c.if-month_days-d.false in day_parts _ _ _ _ _ _ c.requires c.if-d-lt1.false c.month_days.ensures in_month c.days_before_year.ensures c.days_before_month.ensures))

pub overflow_add-result-2 : goal.overflow_add-result-2
overflow_add-result-2 c = omega (arith, (let in_month = c.if-month_days-d.false in day_parts _ _ _ _ _ _ c.requires c.if-d-lt1.false c.month_days.ensures in_month c.days_before_year.ensures c.days_before_month.ensures))

pub returns : goal.returns
returns c =
    let from_one = c.if-d-lt1.false in
    let month = c.month_days.ensures in
    let in_month = c.if-month_days-d.false in
    let years = c.days_before_year.ensures in
    let months = c.days_before_month.ensures in
    checked_day_of _ _ _ _ _ _ from_one month in_month years months
