use lib.ListN.{drop}
use Prim.Native.Nat.{◌+◌}
use Rattle.text.specs.TextMatch.{starts_at}
use mathlib.Core.Path.{◌≡◌}
use Rattle.text.proofs.starts_at.Given as goal

abbrev pub invariant-loop-i : goal.invariant-loop-i
invariant-loop-i l = starts_at l.collation l.value (drop l.i l.text) (l.at + l.i) ≡ starts_at l.collation l.value l.text l.at
