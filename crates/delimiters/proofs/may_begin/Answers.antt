-- `delimiters::may_begin` meets its contract: the tests are the definition's own.
use Rattle.delimiters.specs.Innermost.{may_begin, is_calendar, is_event, is_free_busy}
use Rattle.delimiters.proofs.may_begin.Goals as goal

pub returns : goal.returns
unfolding may_begin is_calendar is_event is_free_busy
returns c = simp (c.same_name-calendar.ensures, c.same_name-event.ensures, c.same_name-free_busy.ensures)
