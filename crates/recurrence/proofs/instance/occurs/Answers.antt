-- `recurrence::instance::occurs` meets its contract: what stands is what the rule has and nothing takes away.
use Rattle.recurrence.specs.Instances.{occurs}
use Rattle.recurrence.proofs.Instances.{clock_among_lem}
use Rattle.recurrence.proofs.instance.occurs.Goals as goal

pub returns : goal.returns
unfolding occurs
returns c = simp (c.is_instance.ensures, c.start_of.ensures, clock_among_lem, c.has.ensures)
