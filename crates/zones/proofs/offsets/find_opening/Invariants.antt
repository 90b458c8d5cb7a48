use mathlib.Core.Path.{◌≡◌}
use Rattle.zones.specs.Offsets.{Opens}
use Rattle.zones.specs.PartRows.{parts_from}
use Rattle.zones.proofs.offsets.find_opening.Given as goal

abbrev pub invariant-loop-i : goal.invariant-loop-i
invariant-loop-i l = Opens (parts_from l.parts l.first) l.i l.best l.least × (l.least ≡ (parts_from l.parts l.first l.best).start)
