use Rattle.zones.specs.Offsets.{GoverningFound}
use Rattle.zones.specs.PartRows.{parts_from}
use Rattle.zones.proofs.offsets.find_governing.Given as goal

abbrev pub invariant-loop-i : goal.invariant-loop-i
invariant-loop-i l = GoverningFound (parts_from l.parts l.first) l.i l.w l.governing
