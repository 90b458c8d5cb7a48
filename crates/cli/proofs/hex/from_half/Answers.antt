-- `cli::hex::from_half` meets its contract: both digits are below 16, so that the pair is a byte.
use mathlib.Core.Path.{sym, ◌∙◌}
use native.Mathlib.Omega.{arith}
use Rattle.cli.proofs.HexLaws.{digit_small}
use Rattle.cli.proofs.hex.from_half.Goals as goal

pub overflow_add-result : goal.overflow_add-result
overflow_add-result c = omega (arith, digit_small c.args.b (sym c.in_ok-d.was ∙ c.hex_digit.ensures))
