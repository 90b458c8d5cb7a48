-- `line::scan::is_quotable` meets its contract: above 34 one byte alone is refused, and the other bytes are tested as the definition says.
use Rattle.line.proofs.Grammar.{high_quotable}
use Rattle.line.specs.Grammar.{is_quotable}
use Rattle.line.proofs.scan.is_quotable.Goals as goal

pub returns-then-b-gt34 : goal.returns-then-b-gt34
returns-then-b-gt34 c = high_quotable _ c.if-b-gt34.true

pub returns : goal.returns
unfolding is_quotable
returns c = simp c.is_control.ensures
