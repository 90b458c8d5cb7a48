-- `recurrence::instance::is_instance` meets its contract: the rule is asked at the start of k.
use Rattle.recurrence.specs.Instances.{is_instance}
use Rattle.recurrence.proofs.instance.is_instance.Goals as goal

pub returns : goal.returns
unfolding is_instance
returns c = simp (c.repeats.ensures, c.start_of.ensures)
