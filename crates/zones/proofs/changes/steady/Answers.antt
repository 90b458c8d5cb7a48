-- `zones::changes::steady` meets its contract: after an onset and before any.
use native.Mathlib.Omega.{arith}
use Rattle.zones.proofs.Parts.{good_as}
use Rattle.zones.proofs.PartRows.{as_part}
use Rattle.zones.proofs.ChangesLaws.{steady_after_onset, steady_before_any}
use Rattle.zones.proofs.changes.steady.Goals as goal

pub overflow_add-first : goal.overflow_add-first
overflow_add-first c = omega (arith, (c.find_governing.ensures.found _ c.in-Some.is).listed)

pub part_at-p-requires : goal.part_at-p-requires
part_at-p-requires c = omega (arith, (c.find_governing.ensures.found _ c.in-Some.is).listed)

pub steady_after-requires : goal.steady_after-requires
steady_after-requires c =
    record {
      good_part = good_as _ _ (as_part _ _ _ _ c.part_at-p.ensures)
          (c.requires.zone_rows.good _ (c.find_governing.ensures.found _ c.in-Some.is).listed);
      t_le_w = (c.find_governing.ensures.found _ c.in-Some.is).reached;
      w_lt_next = c.next_change-next.ensures.later;
      next_le_clock_end = c.next_change-next.ensures.in_time;
    }

pub returns-in-Some : goal.returns-in-Some
returns-in-Some c =
    steady_after_onset _ _ _
    c.requires.zone_rows.some
    c.requires.zone_rows.good
    _
    c.next_change-next.ensures
    _
    c.find_governing.ensures
    _
    _
    _
    c.in-Some.is
    (as_part _ _ _ _ c.part_at-p.ensures)
    c.steady_after.ensures

pub returns : goal.returns
returns c =
    steady_before_any _ _ _
    c.requires.zone_rows.some
    c.requires.zone_rows.good
    _
    c.next_change-next.ensures
    _
    c.find_governing.ensures
    _
    c.in_default.is
    _
    c.find_opening-opening.ensures
    (as_part _ _ _ _ c.part_at-p-2.ensures)
