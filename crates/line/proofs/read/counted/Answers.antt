-- `line::read::counted` meets its contract: each branch is one case of the test on the name.
use Rattle.line.proofs.ReadingParameters.{counted_same, counted_other}
use mathlib.Core.Path.{sym, ◌∙◌}
use Rattle.line.proofs.read.counted.Goals as goal

pub returns-then-is_named : goal.returns-then-is_named
returns-then-is_named c = counted_same _ _ c.args.u _ (sym c.is_named.ensures ∙ c.if-is_named.true) c.value_count-list.ensures

pub returns-else-is_named : goal.returns-else-is_named
returns-else-is_named c = counted_other _ _ c.args.u (sym c.is_named.ensures ∙ c.if-is_named.false)
