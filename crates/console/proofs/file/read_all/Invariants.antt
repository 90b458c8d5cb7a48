-- `console::file::read_all` is safe, and it ends: each read that goes on fills some of the room, and no read changes a buffer's length.
use Rattle.std.proofs.Common.{length, ◌-◌, ◌≡◌, ◌≤◌}
use Rattle.console.proofs.file.read_all.Given as goal

abbrev pub invariant-loop-n : goal.invariant-loop-n
invariant-loop-n g l = (length l.into ≡ length l.initial.into) × (l.n ≤ length l.into)

abbrev pub decreases-loop-n : goal.decreases-loop-n
decreases-loop-n g l = length l.initial.into - l.n
