-- `zones::offsets::offset_at` meets its contract: one law for each way out.
use native.Mathlib.Omega.{arith}
use Rattle.zones.proofs.Parts.{good_as}
use Rattle.zones.proofs.PartRows.{as_part}
use Rattle.zones.proofs.OffsetsLaws.{by_from_holds, by_to_holds, by_opening}
use Rattle.zones.proofs.offsets.offset_at.Goals as goal

pub overflow_add-first : goal.overflow_add-first
overflow_add-first c = omega (arith, (c.find_governing.ensures.found _ c.in-Some.is).listed)

pub part_at-p-requires : goal.part_at-p-requires
part_at-p-requires c = omega (arith, (c.find_governing.ensures.found _ c.in-Some.is).listed)

pub overflow_sub-w : goal.overflow_sub-w
overflow_sub-w c = omega (arith, (c.find_governing.ensures.found _ c.in-Some.is).reached)

pub overflow_add-w : goal.overflow_add-w
overflow_add-w c =
    omega (
      arith,
      (good_as _ _ (as_part _ _ _ _ c.part_at-p.ensures)
          (c.requires.zone_rows.good _
          (c.find_governing.ensures.found _ c.in-Some.is).listed)).from_good,
    )

pub returns-then-w-g : goal.returns-then-w-g
returns-then-w-g c =
    by_from_holds _ _ _ _ c.find_governing.ensures _ _ c.in-Some.is
    (as_part _ _ _ _ c.part_at-p.ensures)
    c.if-w-g.true

pub returns-in-Some : goal.returns-in-Some
returns-in-Some c =
    by_to_holds _ _ _ _ c.find_governing.ensures _ _ c.in-Some.is
    (as_part _ _ _ _ c.part_at-p.ensures)
    c.if-w-g.false

pub returns : goal.returns
returns c =
    by_opening _ _ _ _ c.find_governing.ensures _ c.in_default.is _ c.find_opening-opening.ensures
    (as_part _ _ _ _ c.part_at-p-2.ensures)
