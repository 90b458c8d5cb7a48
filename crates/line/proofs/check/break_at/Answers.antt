-- `line::check::break_at` meets its contract: past the last byte but one no CR LF begins.
use Rattle.text.specs.Unfolding.{is_break}
use Rattle.text.specs.Lines.{break_at}
use Rattle.line.proofs.WellFormedControls.{break_none}
use mathlib.Core.Path.{refl}
use native.Mathlib.Omega.{arith}
use Rattle.line.proofs.check.break_at.Goals as goal

pub returns-then-s-i-gt1 : goal.returns-then-s-i-gt1
unfolding break_at is_break
returns-then-s-i-gt1 c = refl

pub returns-else-s-i-gt1 : goal.returns-else-s-i-gt1
returns-else-s-i-gt1 c = break_none _ _ (omega arith)

pub returns-else-i-s : goal.returns-else-i-s
returns-else-i-s c = break_none _ _ (omega arith)
