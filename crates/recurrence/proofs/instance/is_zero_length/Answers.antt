-- `recurrence::instance::is_zero_length` meets its contract: the test is the definition's own.
use Rattle.recurrence.specs.Instances.{is_zero_length}
use Rattle.recurrence.proofs.instance.is_zero_length.Goals as goal

pub returns : goal.returns
unfolding is_zero_length
returns c = simp c.length_of.ensures
