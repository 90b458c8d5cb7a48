-- `recurrence::instance::step_of` meets its contract: the product is the definition's own, and small.
use Rattle.recurrence.specs.Instances.{step_of}
use Rattle.recurrence.proofs.Instances.{days_small}
use mathlib.Core.Path.{refl}
use native.Mathlib.Omega.{arith}
use Rattle.recurrence.proofs.instance.step_of.Goals as goal

pub overflow_mul-result : goal.overflow_mul-result
overflow_mul-result c = omega (arith, days_small c.requires)

pub overflow_mul-result-2 : goal.overflow_mul-result-2
overflow_mul-result-2 c = omega (arith, days_small c.requires)

pub returns : goal.returns
unfolding step_of
returns c = refl
