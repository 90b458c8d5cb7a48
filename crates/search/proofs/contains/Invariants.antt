use Prim.Native.Nat.{◌≤◌}
use Rattle.text.proofs.TextMatch.{Sought}
use Rattle.search.proofs.contains.Given as goal

abbrev pub invariant-loop-at : goal.invariant-loop-at
invariant-loop-at l = (l.tries ≤ l.at) × Sought l.collation l.value l.text l.at
