use Rattle.zones.specs.PartRows.{parts_from}
use Rattle.zones.specs.Changes.{QuietUntil}
use Rattle.zones.proofs.changes.next_change.Given as goal

abbrev pub invariant-loop-i : goal.invariant-loop-i
invariant-loop-i l = QuietUntil (parts_from l.parts l.first) l.i l.w l.least
