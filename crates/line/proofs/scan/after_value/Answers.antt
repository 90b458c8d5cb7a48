-- `line::scan::after_value` meets its contract: it tries the three bytes in the order of the definition.
use Rattle.line.specs.Scanner.{after_value}
use Rattle.line.proofs.scan.after_value.Goals as goal

pub returns : goal.returns
unfolding after_value
returns c = simp (c.byte_or-3.ensures, c.byte_or-2.ensures, c.byte_or.ensures)
