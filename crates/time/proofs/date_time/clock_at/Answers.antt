-- `time::date_time::clock_at` meets its contract: the mark, the day and the time decide, in this order; both numbers are small.
use Rattle.time.proofs.DateTime.{clock_at_mark, clock_at_day, clock_at_time, clock_at_of, date_at_small, time_at_small}
use mathlib.Core.Path.{sym, ◌∙◌}
use native.Mathlib.Omega.{arith}
use Rattle.time.proofs.date_time.clock_at.Goals as goal

pub returns-then-upper-ne84 : goal.returns-then-upper-ne84
returns-then-upper-ne84 c = clock_at_mark _ _ _ c.upper.ensures c.if-upper-ne84.true

pub returns-in_err-day : goal.returns-in_err-day
returns-in_err-day c = c.from_residual.ensures ∙ clock_at_day _ _ _ c.upper.ensures c.if-upper-ne84.false (sym c.date_at.ensures ∙ c.in_err-day.was)

pub returns-in_err-second : goal.returns-in_err-second
returns-in_err-second c =
    let day = sym c.date_at.ensures ∙ c.in_ok-day.was in
    c.from_residual-in_err-second.ensures ∙ clock_at_time _ _ _ _ c.upper.ensures c.if-upper-ne84.false day (sym c.time_at.ensures ∙ c.in_err-second.was)

pub overflow_mul-result : goal.overflow_mul-result
overflow_mul-result c = omega (arith, date_at_small _ _ (sym c.date_at.ensures ∙ c.in_ok-day.was))

pub overflow_add-result : goal.overflow_add-result
overflow_add-result c = omega (arith, date_at_small _ _ (sym c.date_at.ensures ∙ c.in_ok-day.was), time_at_small _ _ (sym c.time_at.ensures ∙ c.in_ok-second.was))

pub returns : goal.returns
returns c =
    let day = sym c.date_at.ensures ∙ c.in_ok-day.was in
    clock_at_of _ _ _ _ _ c.upper.ensures c.if-upper-ne84.false day (sym c.time_at.ensures ∙ c.in_ok-second.was)
