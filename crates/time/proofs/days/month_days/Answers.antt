-- `time::days::month_days` meets its contract: there is no day outside the twelve months; February has 29 or 28; any other month has 31 or 30 by its number.
use mathlib.Core.Bool.{true, false}
use Rattle.time.proofs.DaysLaws.{month_inside, month_days_outside, month_days_february, month_days_other}
use native.Mathlib.Omega.{arith}
use Rattle.time.proofs.days.month_days.Goals as goal

pub returns-then-m : goal.returns-then-m
returns-then-m c = month_days_outside _ _ c.if-m.true

pub returns-then-is_leap : goal.returns-then-is_leap
returns-then-is_leap c = month_days_february _ _ _ true c.if-m-eq2.true c.is_leap.ensures c.if-is_leap.true

pub returns-then-m-eq2 : goal.returns-then-m-eq2
returns-then-m-eq2 c = month_days_february _ _ _ false c.if-m-eq2.true c.is_leap.ensures c.if-is_leap.false

pub overflow_add-result : goal.overflow_add-result
overflow_add-result c = omega (arith, month_inside c.args.m c.if-m.false)

pub returns : goal.returns
returns c = month_days_other _ _ c.if-m.false c.if-m-eq2.false
