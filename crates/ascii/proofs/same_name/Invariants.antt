use mathlib.Core.Path.{◌≡◌}
use Rattle.ascii.specs.Names.{same_name}
use lib.ListN.{length, drop}
use Rattle.ascii.proofs.same_name.Given as goal

abbrev pub invariant-loop-i : goal.invariant-loop-i
invariant-loop-i l = (length l.a ≡ length l.b) × (same_name (drop l.i l.a) (drop l.i l.b) ≡ same_name l.a l.b)
