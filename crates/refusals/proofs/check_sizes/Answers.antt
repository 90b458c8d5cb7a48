-- `refusals::check_sizes` meets its contract: the tests stand in the order of the rows.
use Rattle.refusals.proofs.Stages.{calendar_long, work_short, sizes_good}
use Rattle.refusals.proofs.check_sizes.Goals as goal

pub returns-then-cal-gt65536 : goal.returns-then-cal-gt65536
returns-then-cal-gt65536 c = calendar_long _ _ c.if-cal-gt65536.true

pub returns-then-work-cal : goal.returns-then-work-cal
returns-then-work-cal c = work_short _ _ c.if-cal-gt65536.false c.if-work-cal.true

pub returns : goal.returns
returns c = sizes_good _ _ c.if-cal-gt65536.false c.if-work-cal.false
