use lib.ListN.{drop}
use Rattle.fingerprints.specs.Fingerprints.{finished, words}
use Rattle.fingerprints.proofs.Fingerprints.{Ending}
use Rattle.fingerprints.proofs.finish.Given as goal

abbrev pub invariant-loop-i : goal.invariant-loop-i
invariant-loop-i l =
    Ending l.u l.from l.i l.one l.two l.three (finished l.first l.second l.third (words (drop l.from l.u)))
