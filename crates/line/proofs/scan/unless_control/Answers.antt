-- `line::scan::unless_control` meets its contract: each branch is one case of the test on the byte.
use mathlib.Core.Path.{sym, ◌∙◌}
use Rattle.line.proofs.scan.unless_control.Goals as goal

pub returns-then-is_control : goal.returns-then-is_control
returns-then-is_control c = rw (sym c.is_control.ensures ∙ c.if-is_control.true)

pub returns-else-is_control : goal.returns-else-is_control
returns-else-is_control c = rw (sym c.is_control.ensures ∙ c.if-is_control.false)
