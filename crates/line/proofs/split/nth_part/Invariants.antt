use Prim.Native.Nat.{◌≤◌, ◌-◌}
use Rattle.line.proofs.Splitting.{Reached}
use Rattle.line.proofs.split.nth_part.Given as goal

abbrev pub invariant-loop : goal.invariant-loop
invariant-loop l = (l.counter ≤ l.n) × Reached l.quoting l.separator l.s l.n l.from l.at (l.n - l.counter)
