-- `vectors::calendars::shift` is safe: no digit takes the number past its limit.
use Rattle.std.proofs.Common.{◌≤◌}
use Rattle.vectors.proofs.calendars.shift.Given as goal

abbrev pub invariant-loop-b : goal.invariant-loop-b
invariant-loop-b l = l.n ≤ 100800
