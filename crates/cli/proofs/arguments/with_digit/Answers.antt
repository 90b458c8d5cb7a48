-- `cli::arguments::with_digit` meets its contract: what the checked product and sum say is what the bound of the definition says.
use mathlib.Core.Path.{◌∙◌}
use native.Mathlib.Omega.{arith}
use Rattle.cli.proofs.ArgumentsLaws.{digit_less, digit_large, digit_sum}
use Rattle.cli.proofs.arguments.with_digit.Goals as goal

pub returns-then-not-is_ascii_digit : goal.returns-then-not-is_ascii_digit
returns-then-not-is_ascii_digit c = digit_less _ _ c.if-not-is_ascii_digit.ensures.cases

pub returns-in_err-checked_mul : goal.returns-in_err-checked_mul
returns-in_err-checked_mul c = c.from_residual.ensures ∙ digit_large _ _ (omega (arith, c.in_err-checked_mul.ensures))

pub returns : goal.returns
returns c = digit_sum _ _ _ c.if-not-is_ascii_digit.ensures.cases c.in_ok-checked_mul.ensures.1 c.from.ensures c.checked_add.ensures
