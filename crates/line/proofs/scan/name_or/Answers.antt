-- `line::scan::name_or` meets its contract: each branch is one case of the test on the byte.
use mathlib.Core.Path.{sym, ◌∙◌}
use Rattle.line.proofs.scan.name_or.Goals as goal

pub returns-then-is_name_byte : goal.returns-then-is_name_byte
returns-then-is_name_byte c = rw (sym c.is_name_byte.ensures ∙ c.if-is_name_byte.true)

pub returns-else-is_name_byte : goal.returns-else-is_name_byte
returns-else-is_name_byte c = rw (sym c.is_name_byte.ensures ∙ c.if-is_name_byte.false)
