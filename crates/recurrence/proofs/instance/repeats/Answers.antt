-- `recurrence::instance::repeats` meets its contract: each arm is the definition at its variant.
use Rattle.recurrence.specs.Instances.{repeats}
use Rattle.recurrence.proofs.Instances.{leb_clock}
use Rattle.recurrence.proofs.instance.repeats.Goals as goal

pub returns-in-Once : goal.returns-in-Once
unfolding repeats
returns-in-Once c = simp c.in-Once.is

pub returns-in-Forever : goal.returns-in-Forever
unfolding repeats
returns-in-Forever c = simp c.in-Forever.is

pub returns-in-Count : goal.returns-in-Count
unfolding repeats
returns-in-Count c = simp c.in-Count.is

pub returns-in-Until : goal.returns-in-Until
unfolding repeats
returns-in-Until c = simp (c.in-Until.is, leb_clock)
