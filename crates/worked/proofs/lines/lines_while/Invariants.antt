-- `worked::lines::lines_while` is safe and ends: each turn passes a line.
use Rattle.std.proofs.Common.{◌≤◌, length}
use Rattle.worked.proofs.lines.lines_while.Given as goal

abbrev pub invariant-loop-line : goal.invariant-loop-line
invariant-loop-line g l = length l.rest ≤ length l.text

abbrev pub decreases-loop-line : goal.decreases-loop-line
decreases-loop-line g l = length l.rest
