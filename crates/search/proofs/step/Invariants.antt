use lib.ListN.{length}
use Rattle.search.specs.Borders.{byte_of}
use Rattle.search.proofs.Borders.{Trying}
use Rattle.search.proofs.step.Given as goal

abbrev pub invariant-loop-collation : goal.invariant-loop-collation
invariant-loop-collation l = Trying (byte_of l.collation l.text) (length l.text) l.from l.b l.k

abbrev pub decreases-loop-collation : goal.decreases-loop-collation
decreases-loop-collation l = l.k
