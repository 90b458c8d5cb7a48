-- `time::duration::with_unit` meets its contract: the test is the definition's, at the stage and the weight that the callees answer; both products are small.
use Rattle.time.proofs.DurationLaws.{unit_fits, with_unit_of, with_unit_wrong}
use mathlib.Core.Path.{◌∙◌}
use native.Mathlib.Omega.{arith}
use Rattle.time.proofs.duration.with_unit.Goals as goal

pub overflow_add-size : goal.overflow_add-size
overflow_add-size c = omega (arith, unit_fits _ c.requires _ _ c.weight_of-one.ensures)

pub overflow_mul-result : goal.overflow_mul-result
overflow_mul-result c = omega (arith, unit_fits _ c.requires _ _ c.weight_of-one.ensures)

pub overflow_add-result : goal.overflow_add-result
overflow_add-result c = omega (arith, unit_fits _ c.requires _ _ c.weight_of-one.ensures)

pub overflow_mul-result-then-size-digits : goal.overflow_mul-result-then-size-digits
overflow_mul-result-then-size-digits c = omega (arith, unit_fits _ c.requires _ _ c.weight_of-one.ensures)

pub overflow_add-result-then-size-digits : goal.overflow_add-result-then-size-digits
overflow_add-result-then-size-digits c = omega (arith, unit_fits _ c.requires _ _ c.weight_of-one.ensures)

pub returns-then-size-digits : goal.returns-then-size-digits
returns-then-size-digits c = with_unit_of _ _ _ _ c.next_stage-next.ensures c.weight_of-one.ensures c.if-size-digits.true

pub returns : goal.returns
returns c = c.blank.ensures ∙ with_unit_wrong _ _ _ _ c.next_stage-next.ensures c.weight_of-one.ensures c.if-size-digits.false
