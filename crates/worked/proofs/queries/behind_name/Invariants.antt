-- `worked::queries::behind_name` ends: each turn passes a line.
use Rattle.std.proofs.Common.{length}
use Rattle.worked.proofs.queries.behind_name.Given as goal

abbrev pub decreases-loop-line : goal.decreases-loop-line
decreases-loop-line l = length l.rest
