-- `time::writing::day_of` meets its contract: quotient and rest are its year and the days of that year (parts_direct), and its month has begun; no difference falls below 0.
use Rattle.time.proofs.WritingLaws.{parts_direct, month_fits, day_of_made}
use native.Mathlib.Omega.{arith}
use Rattle.time.proofs.writing.day_of.Goals as goal

pub month_in-month-requires : goal.month_in-month-requires
month_in-month-requires c = (parts_direct _ c.requires).in_year

pub before_in-requires : goal.before_in-requires
before_in-requires c = (month_fits _ _ _ _ _ (parts_direct _ c.requires) c.month_in-month.ensures).0

pub overflow_sub-day : goal.overflow_sub-day
overflow_sub-day c = omega (arith, c.before_in.ensures, (month_fits _ _ _ _ _ (parts_direct _ c.requires) c.month_in-month.ensures).1)

pub returns : goal.returns
returns c = day_of_made _ _ _ _ _ _ (parts_direct _ c.requires) c.month_in-month.ensures c.before_in.ensures
