use Prim.Native.Nat.{◌+◌}
use lib.ListN.{length}
use Rattle.text.specs.Unfolding.{Nowhere}
use Rattle.text.specs.Lines.{break_at}
use mathlib.Core.Path.{◌≡◌}
use Rattle.text.proofs.next_line.Given as goal

abbrev pub invariant-loop-i : goal.invariant-loop-i
invariant-loop-i l = (l.last + 1 ≡ length l.s) × Nowhere break_at l.s l.from l.i
