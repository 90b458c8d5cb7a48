-- `time::date_time::digit_pair` meets its contract: two digits are 48 to 57 each, so that nothing wraps; either way out is the definition's.
use Rattle.time.proofs.DateTime.{both_digits, digit_pair_of, digit_pair_bad}
use native.Mathlib.Omega.{arith}
use Rattle.time.proofs.date_time.digit_pair.Goals as goal

pub overflow_sub-result : goal.overflow_sub-result
overflow_sub-result c = omega (arith, both_digits _ _ _ _ c.is_digit.ensures c.is_digit-2.ensures c.if-is_digit.true)

pub overflow_sub-result-then-is_digit : goal.overflow_sub-result-then-is_digit
overflow_sub-result-then-is_digit c = omega (arith, both_digits _ _ _ _ c.is_digit.ensures c.is_digit-2.ensures c.if-is_digit.true)

pub returns-then-is_digit : goal.returns-then-is_digit
returns-then-is_digit c = digit_pair_of _ _ _ _ c.is_digit.ensures c.is_digit-2.ensures c.if-is_digit.true

pub returns : goal.returns
returns c = digit_pair_bad _ _ _ _ c.is_digit.ensures c.is_digit-2.ensures c.if-is_digit.false
