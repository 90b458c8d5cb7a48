-- `zones::changes::next_by_rule` meets its contract: the loop keeps that no day of the rule in an earlier year comes after w.
use native.Mathlib.Omega.{arith}
use Rattle.zones.proofs.RuleDayYears.{day_small}
use Rattle.zones.proofs.ChangesLaws.{over_start, next_at, over_end}
use Rattle.zones.proofs.changes.next_by_rule.Goals as goal

pub loop-y-init : goal.loop-y-init
loop-y-init c = over_start _ _ _ c.requires.good_part.month_good c.begun_year-y.ensures

pub overflow_mul-t : goal.overflow_mul-t
overflow_mul-t c = omega (arith, (day_small c.args.p _ _ _ c.rule_day.ensures c.in-Some.is (omega arith) c.requires.good_part.month_good))

pub overflow_add-t : goal.overflow_add-t
overflow_add-t c = omega (arith, (day_small c.args.p _ _ _ c.rule_day.ensures c.in-Some.is (omega arith) c.requires.good_part.month_good))

pub returns-then-w-t : goal.returns-then-w-t
returns-then-w-t c =
    next_at _ _ _ _ c.rule_day.ensures c.loop-y.invariant
    c.requires.good_part.month_good
    _
    c.in-Some.is
    c.if-w-t.true

pub returns : goal.returns
returns c = over_end _ _ _ c.loop-y.invariant c.loop-y-test.false c.requires.w_lt_clock_end
