-- `time::duration::finish` meets its contract: the test is the definition's, at the weight that the callee answers.
use Rattle.time.proofs.DurationLaws.{weight_small, finish_of, finish_bad}
use native.Mathlib.Omega.{arith}
use Rattle.time.proofs.duration.finish.Goals as goal

pub overflow_add-days : goal.overflow_add-days
overflow_add-days c = omega (arith, weight_small _ _ c.weight_of-one.ensures)

pub returns-then-days-seconds : goal.returns-then-days-seconds
returns-then-days-seconds c = finish_of _ _ c.weight_of-one.ensures c.if-days-seconds.true

pub returns : goal.returns
returns c = finish_bad _ _ c.weight_of-one.ensures c.if-days-seconds.false
