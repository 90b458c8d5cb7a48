use Rattle.fingerprints.proofs.Columns.{Tested}
use Rattle.fingerprints.proofs.is_near.Given as goal

abbrev pub invariant-loop-k : goal.invariant-loop-k
invariant-loop-k l = Tested l.prints l.from l.x l.k l.found
