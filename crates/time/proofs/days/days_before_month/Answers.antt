-- `time::days::days_before_month` meets its contract: it asks whether the year is a leap year, and for the days before the month in such a year.
use Rattle.time.proofs.DaysLaws.{days_before_month_by}
use Rattle.time.proofs.days.days_before_month.Goals as goal

pub returns : goal.returns
returns c = days_before_month_by _ _ _ _ c.is_leap.ensures c.before_in.ensures
