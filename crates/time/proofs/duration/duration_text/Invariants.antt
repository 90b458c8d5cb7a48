use lib.ListN.{drop}
use Rattle.time.specs.declared.duration.Stage.TheVariants.{Start}
use Rattle.time.specs.Duration.{EventSmall, runs, blank}
use mathlib.Core.Path.{◌≡◌}
use Rattle.time.proofs.duration.duration_text.Given as goal

abbrev pub invariant-loop-b : goal.invariant-loop-b
invariant-loop-b l = EventSmall l.r × (runs l.r (drop l.b-index l.s) ≡ runs (blank Start) l.s)
