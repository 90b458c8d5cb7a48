-- `values::rule::number_to` meets its contract: the digits that were read make the number so far; the length, the digits and the bounds decide as in the definition.
use Rattle.time.proofs.DateTime.{digit_range}
use Rattle.values.proofs.RuleLaws.{number_length, digits_start, digits_small, digits_next, digits_stop, digits_over, digits_of}
use mathlib.Core.Path.{sym, ◌∙◌}
use native.Mathlib.Omega.{arith}
use Rattle.values.proofs.rule.number_to.Goals as goal

pub returns-then-s : goal.returns-then-s
returns-then-s c = number_length _ _ c.if-s.true

pub loop-b-init : goal.loop-b-init
loop-b-init c = digits_start _ c.if-s.false

pub returns-then-not-is_digit : goal.returns-then-not-is_digit
returns-then-not-is_digit c = digits_stop _ c.loop-b-test.true (sym c.is_digit.ensures ∙ c.if-not-is_digit.true) c.loop-b.invariant

pub overflow_mul-n : goal.overflow_mul-n
overflow_mul-n c = omega (arith, digits_small c.loop-b.invariant)

pub overflow_sub-n : goal.overflow_sub-n
overflow_sub-n c = omega (arith, digit_range _ (sym c.is_digit.ensures ∙ c.if-not-is_digit.false))

pub overflow_add-n : goal.overflow_add-n
overflow_add-n c = omega (arith, digits_small c.loop-b.invariant, digit_range _ (sym c.is_digit.ensures ∙ c.if-not-is_digit.false))

pub loop-b-preserved : goal.loop-b-preserved
loop-b-preserved c = rw c.from.ensures (digits_next c.loop-b-test.true (sym c.is_digit.ensures ∙ c.if-not-is_digit.false) c.loop-b.invariant)

pub returns-then-n-most : goal.returns-then-n-most
returns-then-n-most c = digits_over _ c.loop-b-test.false c.loop-b.invariant c.if-n-most.true

pub returns : goal.returns
returns c = digits_of _ c.loop-b-test.false c.loop-b.invariant c.if-n-most.false
