use Prim.Native.Nat.{◌*◌}
use Rattle.fingerprints.proofs.Fingerprints.{Summing}
use Rattle.fingerprints.proofs.fingerprint.Given as goal

abbrev pub invariant-loop-k : goal.invariant-loop-k
invariant-loop-k l = Summing l.u (4 * l.k) l.one l.two l.three
