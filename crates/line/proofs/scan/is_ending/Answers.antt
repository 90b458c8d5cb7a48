-- `line::scan::is_ending` meets its contract: the value alone is an end.
use Rattle.line.specs.Scanner.{is_ending}
use Rattle.line.proofs.Scanner.{ending_value}
use Rattle.ascii.proofs.Bools.{not_so}
use mathlib.Core.Path.{sym}
use Rattle.line.proofs.scan.is_ending.Goals as goal

pub returns-in-Value : goal.returns-in-Value
unfolding is_ending
returns-in-Value c = simp c.in-Value.is

pub returns-in_default : goal.returns-in_default
returns-in_default c = sym (not_so _ (λ t. c.in_default.not-Value (ending_value _ t)))
