use Prim.Native.Nat.{◌-◌}
use Rattle.line.specs.declared.scan.State.TheVariants.{Name}
use Rattle.line.specs.Scanner.{scan}
use lib.ListN.{length, drop}
use mathlib.Core.Path.{◌≡◌}
use Rattle.line.proofs.scan.is_rest.Given as goal

abbrev pub invariant-loop-i : goal.invariant-loop-i
invariant-loop-i l = scan l.state (drop l.i l.line) ≡ scan Name (drop l.from l.line)

abbrev pub decreases-loop-i : goal.decreases-loop-i
decreases-loop-i l = length l.line - l.i
