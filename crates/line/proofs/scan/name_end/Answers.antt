-- `line::scan::name_end` meets its contract: it tries the semicolon and the colon in the order of the definition.
use Rattle.line.proofs.scan.name_end.Goals as goal

pub returns : goal.returns
returns c = simp (c.byte_or-2.ensures, c.byte_or.ensures)
