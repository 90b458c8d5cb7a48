use Rattle.search.proofs.Borders.{Seeking}
use Rattle.search.proofs.seek.Given as goal

abbrev pub invariant-loop-b : goal.invariant-loop-b
invariant-loop-b l = Seeking l.collation l.value l.text l.b-index l.k
