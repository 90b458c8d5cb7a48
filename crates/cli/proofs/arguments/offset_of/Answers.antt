-- `cli::arguments::offset_of` meets its contract: with no sign the whole text is the size.
use native.Mathlib.Omega.{arith}
use Rattle.cli.proofs.ArgumentsLaws.{offset_bare}
use Rattle.cli.proofs.arguments.offset_of.Goals as goal

pub returns-in_default : goal.returns-in_default
returns-in_default c = offset_bare _ c.in_default.len_at_least (omega arith) (omega arith) c.with_sign-in_default.ensures
