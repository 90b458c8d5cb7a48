-- `recurrence::instance::start_of` meets its contract: the sum is the definition's own, and small.
use Rattle.recurrence.specs.Instances.{start_of}
use Rattle.recurrence.proofs.Instances.{steps_small}
use Prim.Native.Nat.{ℕ, ◌*◌}
use mathlib.Core.Path.{ap}
use native.Mathlib.Omega.{arith}
use Rattle.recurrence.proofs.instance.start_of.Goals as goal

pub overflow_mul-result : goal.overflow_mul-result
overflow_mul-result c = omega (arith, steps_small c.requires.event_small c.requires.k_bound c.step_of.ensures)

pub overflow_add-result : goal.overflow_add-result
overflow_add-result c = omega (arith, steps_small c.requires.event_small c.requires.k_bound c.step_of.ensures, c.requires.event_small.start_small)

pub returns : goal.returns
unfolding start_of
returns c = omega (arith, ap (λ (d : ℕ). c.args.k * d) c.step_of.ensures)
