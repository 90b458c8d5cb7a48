-- `line::split::find` meets its contract: past usual bytes the next place is the same, and there it is at a separator, at the end, or searched byte by byte.
use Rattle.line.proofs.Splitting.{usual_here, usual_end}
use mathlib.Core.Path.{◌∙◌}
use Rattle.line.proofs.split.find.Goals as goal

pub returns-then-s-i : goal.returns-then-s-i
returns-then-s-i c = c.find_outside.ensures ∙ c.skip_usual-i.ensures _

pub returns-else-s-i : goal.returns-else-s-i
returns-else-s-i c = usual_here _ _ _ _ c.if-i-s.true c.if-s-i.false ∙ c.skip_usual-i.ensures _

pub returns-else-i-s : goal.returns-else-i-s
returns-else-i-s c = usual_end _ _ _ _ c.if-i-s.false ∙ c.skip_usual-i.ensures _
