use lib.ListN.{length}
use Rattle.index.proofs.Index.{Filling}
use Rattle.index.proofs.fill_index.Given as goal

abbrev pub invariant-loop-n : goal.invariant-loop-n
invariant-loop-n l = Filling l.s l.index (length l.initial.index) l.n l.at
