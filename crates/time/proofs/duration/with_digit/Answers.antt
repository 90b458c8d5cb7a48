-- `time::duration::with_digit` meets its contract: the test is the definition's; a number of at most six digits fits.
use Rattle.time.proofs.DurationLaws.{number_small, with_digit_of, with_digit_full}
use mathlib.Core.Path.{◌∙◌}
use native.Mathlib.Omega.{arith}
use Rattle.time.proofs.duration.with_digit.Goals as goal

pub overflow_mul-result : goal.overflow_mul-result
overflow_mul-result c = omega (arith, number_small _ c.requires.event_small)

pub overflow_add-result-then-r-lt6 : goal.overflow_add-result-then-r-lt6
overflow_add-result-then-r-lt6 c = omega (arith, number_small _ c.requires.event_small)

pub returns-then-r-lt6 : goal.returns-then-r-lt6
returns-then-r-lt6 c = with_digit_of _ _ c.if-r-lt6.true

pub returns : goal.returns
returns c = c.blank.ensures ∙ with_digit_full _ _ c.if-r-lt6.false
