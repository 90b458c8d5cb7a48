use Rattle.query.specs.Sections.{behind_texts}
use Prim.Native.Nat.{◌-◌}
use mathlib.Core.Path.{◌≡◌}
use Rattle.query.proofs.place.behind_texts.Given as goal

abbrev pub invariant-loop : goal.invariant-loop
invariant-loop l = behind_texts l.s (l.n - l.counter) l.from ≡ behind_texts l.s l.n l.at
