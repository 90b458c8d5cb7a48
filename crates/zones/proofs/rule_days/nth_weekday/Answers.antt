-- `zones::rule_days::nth_weekday` meets its contract: one law for each end of the month, with the day in it or not.
use Rattle.zones.proofs.RuleDays.{ahead_found, ahead_none, behind_found, behind_none}
use Rattle.zones.proofs.rule_days.nth_weekday.Goals as goal

pub returns-then-off-n : goal.returns-then-off-n
returns-then-off-n c = behind_found _ _ _ _ _ c.requires.weekday_bound c.if-back.true c.if-off-n.true

pub returns-then-back : goal.returns-then-back
returns-then-back c = behind_none _ _ _ _ _ c.requires.weekday_bound c.if-back.true c.if-off-n.false

pub returns-then-off-n-2 : goal.returns-then-off-n-2
returns-then-off-n-2 c = ahead_found _ _ _ _ _ c.requires.weekday_bound c.if-back.false c.if-off-n-2.true

pub returns : goal.returns
returns c = ahead_none _ _ _ _ _ c.requires.weekday_bound c.if-back.false c.if-off-n-2.false
