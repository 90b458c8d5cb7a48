-- `series::passes::stop_line` meets its contract: each arm is a clause of the definition.
use Rattle.series.specs.Stopping.{stop_line}
use borrow.Author.Rules.{rules}
use Rattle.series.proofs.passes.stop_line.Goals as goal

pub returns-in-None : goal.returns-in-None
unfolding stop_line
returns-in-None c = search rules

pub returns-in-Some : goal.returns-in-Some
unfolding stop_line
returns-in-Some c = search rules
