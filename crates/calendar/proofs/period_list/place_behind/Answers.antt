-- `calendar::period_list::place_behind` meets its contract: the test is that of the definition.
use borrow.Author.Tests.{lt-ltb, le-ltb}
use Rattle.calendar.specs.Periods.{behind}
use Rattle.calendar.proofs.period_list.place_behind.Goals as goal

pub returns-then-at-v : goal.returns-then-at-v
unfolding behind
returns-then-at-v c = rw (lt-ltb _ _ c.if-at-v.true)

pub returns-else-at-v : goal.returns-else-at-v
unfolding behind
returns-else-at-v c = rw (le-ltb _ _ c.if-at-v.false)
