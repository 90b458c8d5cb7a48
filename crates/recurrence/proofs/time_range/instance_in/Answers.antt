-- `recurrence::time_range::instance_in` meets its contract: the three tests are the definition's own.
use Rattle.recurrence.specs.TimeRange.{instance_in}
use Rattle.recurrence.proofs.Instances.{ltb_clock}
use Rattle.recurrence.proofs.time_range.instance_in.Goals as goal

pub returns : goal.returns
unfolding instance_in
returns c = simp (c.occurs.ensures, c.ends_after.ensures, c.start_of.ensures, ltb_clock)
