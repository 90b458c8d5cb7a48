-- `time::limits::since` meets its contract: the two tests are the definition's.
use Rattle.time.proofs.LimitsLaws.{since_before, since_after, since_within}
use Rattle.time.proofs.limits.since.Goals as goal

pub returns-then-clock-start : goal.returns-then-clock-start
returns-then-clock-start c = since_before _ _ c.if-clock-start.true

pub returns-then-t-gt-LAST_SECOND : goal.returns-then-t-gt-LAST_SECOND
returns-then-t-gt-LAST_SECOND c = since_after _ _ c.if-clock-start.false c.if-t-gt-LAST_SECOND.true

pub returns : goal.returns
returns c = since_within _ _ c.if-clock-start.false c.if-t-gt-LAST_SECOND.false
