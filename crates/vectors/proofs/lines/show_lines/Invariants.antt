-- `vectors::lines::show_lines` is safe and ends: each line lies inside the bytes, and the next one begins behind it.
use Rattle.std.proofs.Common.{length, ◌-◌}
use Rattle.vectors.proofs.lines.show_lines.Given as goal

abbrev pub decreases-loop-e : goal.decreases-loop-e
decreases-loop-e g l = length l.s - l.from
