-- `report::lines::put_report` meets its contract: opening, periods and closing, one behind the other, are the report, and the room for it is known from their lengths.
use Rattle.report.proofs.Writing.{put_report, opening_asks, types_good, types_room, closing_room}
use Rattle.report.specs.Heads.{closing}
use native.Mathlib.Omega.{arith}
use Rattle.report.proofs.lines.put_report.Goals as goal

pub put_opening-a-requires : goal.put_opening-a-requires
put_opening-a-requires c = opening_asks _ _ _ _ c.requires.writable c.requires.ends_in_bounds

pub put_types-b-requires : goal.put_types-b-requires
put_types-b-requires c =
    record { unavailable_in_bounds = c.requires.unavailable_in_bounds; all_good = types_good _ _ _ _ c.requires.writable c.requires.ends_in_bounds; ends_in_bounds = omega (arith, types_room _ _ _ _ c.requires.writable c.requires.ends_in_bounds c.put_opening-a.ensures) }

pub put_bytes-requires : goal.put_bytes-requires
put_bytes-requires c =
    omega (arith, closing_room _ _ _ _ c.requires.writable c.requires.ends_in_bounds c.put_opening-a.ensures c.put_types-b.ensures)

pub overflow_add-result : goal.overflow_add-result
overflow_add-result c =
    omega (arith, closing_room _ _ _ _ c.requires.writable c.requires.ends_in_bounds c.put_opening-a.ensures c.put_types-b.ensures)

pub returns : goal.returns
unfolding closing
returns c =
    let put_opening = c.put_opening-a.ensures in
    let put_types = c.put_types-b.ensures in
    let put_bytes = c.put_bytes.ensures in
    put_report _ _ _ _ put_opening put_types put_bytes
