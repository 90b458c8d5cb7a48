use Rattle.line.specs.Splitting.{next_place}
use mathlib.Core.Bool.{Bool}
use mathlib.Core.Path.{◌≡◌}
use Rattle.line.proofs.split.skip_usual.Given as goal

abbrev pub invariant-loop-i : goal.invariant-loop-i
invariant-loop-i l = (g : Bool) → next_place g l.separator l.s l.i ≡ next_place g l.separator l.s l.from
