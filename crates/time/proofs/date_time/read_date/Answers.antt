-- `time::date_time::read_date` meets its contract: the length and the day's number decide, and a day's number is small.
use Rattle.time.proofs.DateTime.{read_date_length, read_date_bad, read_date_of, date_at_small}
use mathlib.Core.Path.{sym, ◌∙◌}
use native.Mathlib.Omega.{arith}
use Rattle.time.proofs.date_time.read_date.Goals as goal

pub returns-then-s-ne8 : goal.returns-then-s-ne8
returns-then-s-ne8 c = read_date_length _ c.if-s-ne8.true

pub returns-in_err-day : goal.returns-in_err-day
returns-in_err-day c = c.from_residual.ensures ∙ read_date_bad _ c.if-s-ne8.false (sym c.date_at.ensures ∙ c.in_err-day.was)

pub overflow_mul-result : goal.overflow_mul-result
overflow_mul-result c = omega (arith, date_at_small _ _ (sym c.date_at.ensures ∙ c.in_ok-day.was))

pub returns : goal.returns
returns c = read_date_of _ _ c.if-s-ne8.false (sym c.date_at.ensures ∙ c.in_ok-day.was)
