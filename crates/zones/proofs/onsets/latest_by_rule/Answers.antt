-- `zones::onsets::latest_by_rule` meets its contract: the loop keeps that no later year has an onset by the rule that is reached.
use native.Mathlib.Omega.{arith}
use Rattle.zones.proofs.RuleDayYears.{day_small}
use Rattle.zones.proofs.OnsetsLaws.{start, stop_at, ended}
use Rattle.zones.proofs.onsets.latest_by_rule.Goals as goal

pub loop-y-init : goal.loop-y-init
loop-y-init c = start _ _

pub overflow_mul-t : goal.overflow_mul-t
overflow_mul-t c = omega (arith, (day_small c.args.p _ _ _ c.rule_day.ensures c.in-Some.is (omega arith) c.requires.good_part.month_good))

pub overflow_add-t : goal.overflow_add-t
overflow_add-t c = omega (arith, (day_small c.args.p _ _ _ c.rule_day.ensures c.in-Some.is (omega arith) c.requires.good_part.month_good))

pub returns-then-day-d : goal.returns-then-day-d
returns-then-day-d c =
    stop_at _ _ _ _ _
    c.rule_day.ensures
    c.loop-y.invariant
    (omega arith)
    c.requires.good_part.month_good
    _
    c.in-Some.is
    c.if-day-d.true

pub returns : goal.returns
returns c = ended _ _ _ c.requires.good_part.month_good c.loop-y.invariant c.loop-y-test.false
