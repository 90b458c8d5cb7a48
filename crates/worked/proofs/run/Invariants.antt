-- `worked::run` ends: each turn passes a line.
use Rattle.std.proofs.Common.{length}
use Rattle.worked.proofs.run.Given as goal

abbrev pub decreases-loop-line : goal.decreases-loop-line
decreases-loop-line g l = length l.rest
