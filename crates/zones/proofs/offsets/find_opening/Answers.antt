-- `zones::offsets::find_opening` meets its contract: the loop keeps the earliest onset of the parts before i, and which part has it.
use mathlib.Core.Path.{refl}
use native.Mathlib.Omega.{arith}
use Rattle.zones.specs.PartRows.{part_at, parts_from}
use Rattle.zones.proofs.OffsetsLaws.{open_keep, open_take, open_done}
use Rattle.zones.proofs.PartRows.{open_rows, start_rows}
use Rattle.zones.proofs.offsets.find_opening.Goals as goal
use Rattle.zones.proofs.offsets.find_opening.Goals.{then-t-least, else-t-least}

pub loop-i-init : goal.loop-i-init
loop-i-init c = (open_rows _ _ _ refl, start_rows _ _ _ refl)

pub loop-i-preserved : goal.loop-i-preserved
unfolding part_at parts_from
loop-i-preserved c =
    elim c.if-t-least.branch [
      | then-t-least w ↦ rw (w.best-is, w.least-is) (open_take _ _ _ _ c.loop-i.invariant.0 w.if-t-least.true, refl)
      | else-t-least w ↦ rw (w.best-is, w.least-is) (open_keep _ _ _ _ c.loop-i.invariant.0 w.if-t-least.false, c.loop-i.invariant.1)
    ]

pub returns : goal.returns
returns c = open_done _ _ _ _ _ (omega arith) c.loop-i-test.false c.loop-i.invariant.1 c.loop-i.invariant.0
