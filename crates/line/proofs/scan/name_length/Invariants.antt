use Rattle.line.specs.Scanner.{name_bytes}
use lib.ListN.{drop}
use Prim.Native.Nat.{◌+◌}
use mathlib.Core.Path.{◌≡◌}
use Rattle.line.proofs.scan.name_length.Given as goal

abbrev pub invariant-loop-i : goal.invariant-loop-i
invariant-loop-i l = l.i + name_bytes (drop l.i l.line) ≡ name_bytes l.line
