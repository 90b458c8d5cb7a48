-- `zones::changes::next_change` meets its contract: the loop keeps the least next onset of the parts before i.
use native.Mathlib.Omega.{arith}
use Rattle.zones.proofs.Parts.{good_as}
use Rattle.zones.proofs.PartRows.{as_part}
use Rattle.zones.proofs.ChangesLaws.{quiet_start, quiet_lower, quiet_kept, quiet_done}
use Rattle.zones.proofs.changes.next_change.Goals as goal
use Rattle.zones.proofs.changes.next_change.Goals.{then-t-least, else-t-least}

pub loop-i-init : goal.loop-i-init
loop-i-init c = quiet_start _ _ c.requires.w_lt_clock_end

pub next_onset-t-requires-clause-good_part : goal.next_onset-t-requires-clause-good_part
next_onset-t-requires-clause-good_part c = good_as _ _ (as_part _ _ _ _ c.part_at.ensures) (c.requires.zone_rows.good _ (omega arith))

pub loop-i-preserved : goal.loop-i-preserved
loop-i-preserved c =
    let part = as_part _ _ _ _ c.part_at.ensures in
    elim c.if-t-least.branch [
      | then-t-least w ↦ rw w.least-is (quiet_lower _ _ _ _ _ _ c.loop-i.invariant part c.next_onset-t.ensures w.if-t-least.true)
      | else-t-least w ↦ rw w.least-is (quiet_kept _ _ _ _ _ _ c.loop-i.invariant part c.next_onset-t.ensures w.if-t-least.false)
    ]

pub returns : goal.returns
returns c = quiet_done _ _ _ _ _ c.loop-i.auto.i-end c.loop-i-test.false c.loop-i.invariant
