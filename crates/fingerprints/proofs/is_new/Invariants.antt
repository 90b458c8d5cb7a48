use Prim.Native.Nat.{◌+◌, ◌*◌, ◌-◌}
use Rattle.fingerprints.proofs.Columns.{Passed}
use Rattle.fingerprints.proofs.is_new.Given as goal

abbrev pub invariant-loop-k : goal.invariant-loop-k
invariant-loop-k l = Passed l.prints l.n l.x (64 + l.n - 64 * l.k)
