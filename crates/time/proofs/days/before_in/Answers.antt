-- `time::days::before_in` meets its contract: the division, computed for every month, counts month by month, and a leap day comes after February.
use Rattle.time.proofs.DaysLaws.{before_in_early, before_in_leap, before_in_other}
use Rattle.time.proofs.days.before_in.Goals as goal

pub returns-then-m-lt3 : goal.returns-then-m-lt3
returns-then-m-lt3 c = before_in_early _ _ c.if-m-lt3.true

pub returns-then-leap : goal.returns-then-leap
returns-then-leap c = before_in_leap _ _ c.if-leap.true c.if-m-lt3.false c.requires

pub returns : goal.returns
returns c = before_in_other _ _ c.if-leap.false c.if-m-lt3.false c.requires
