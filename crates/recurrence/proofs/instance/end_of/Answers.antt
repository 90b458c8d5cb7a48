-- `recurrence::instance::end_of` meets its contract: the sum is the definition's own, and small.
use Rattle.recurrence.specs.Instances.{end_of}
use Rattle.recurrence.proofs.Instances.{start_small, length_small}
use native.Mathlib.Omega.{arith}
use Rattle.recurrence.proofs.instance.end_of.Goals as goal

pub overflow_add-result : goal.overflow_add-result
overflow_add-result c =
    omega (arith, c.start_of.ensures, c.length_of.ensures, start_small c.requires.event_small c.requires.k_bound, length_small c.requires.event_small)

pub returns : goal.returns
unfolding end_of
returns c = omega (arith, c.start_of.ensures, c.length_of.ensures)
