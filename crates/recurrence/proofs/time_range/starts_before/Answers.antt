-- `recurrence::time_range::starts_before` meets its contract: the test tells whether the search goes on.
use Rattle.recurrence.proofs.Candidates.{more_by}
use Rattle.recurrence.proofs.time_range.starts_before.Goals as goal

pub returns : goal.returns
returns c = more_by _ c.requires.event_small c.requires.b_le_last_second c.is_instance.ensures c.start_of.ensures
