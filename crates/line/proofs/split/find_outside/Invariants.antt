use Rattle.line.specs.Splitting.{first_outside, next_place}
use lib.ListN.{drop}
use Prim.Native.Nat.{◌+◌}
use mathlib.Core.Path.{◌≡◌}
use Rattle.line.proofs.split.find_outside.Given as goal

abbrev pub invariant-loop-i : goal.invariant-loop-i
invariant-loop-i l = l.i + first_outside l.quoting l.separator l.quoted (drop l.i l.s) ≡ next_place l.quoting l.separator l.s l.from
