-- `line::scan::is_unquoted` meets its contract: above 59 one byte alone is refused, and the other bytes are tested as the definition says.
use Rattle.line.proofs.Grammar.{high_unquoted}
use Rattle.line.specs.Grammar.{is_unquoted}
use Rattle.line.proofs.scan.is_unquoted.Goals as goal

pub returns-then-b-gt59 : goal.returns-then-b-gt59
returns-then-b-gt59 c = high_unquoted _ c.if-b-gt59.true

pub returns : goal.returns
unfolding is_unquoted
returns c = simp c.is_control.ensures
