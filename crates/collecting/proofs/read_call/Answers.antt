-- `collecting::read_call` meets its contract: range and stamp are tested at once, and then the offset is read.
use mir.Syntax.{w64}
use mir.ValLaws.{to_z-of_z}
use Rattle.time.specs.Limits.{range_good}
use Rattle.collecting.specs.CalendarTerms.{stamp_good}
use Rattle.collecting.proofs.CollectStages.{call_good, call_bad}
use Rattle.collecting.proofs.read_call.Goals as goal

pub returns-then-good : goal.returns-then-good
unfolding range_good stamp_good
returns-then-good c = call_good _ _ _ (to_z-of_z w64 c.args.offset c.ranges.offset) c.if-good.true c.read_offset.ensures

pub returns : goal.returns
unfolding range_good stamp_good
returns c = call_bad _ _ _ _ c.if-good.false
