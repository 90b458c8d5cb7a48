-- `zones::offsets::utc_clock` meets its contract: what is found is the offset, so the difference is the UTC clock, or is cut off at 0.
use Rattle.zones.proofs.OffsetsComputed.{utc_by_holds, utc_cut}
use Rattle.zones.proofs.offsets.utc_clock.Goals as goal

pub returns-then-w-offset : goal.returns-then-w-offset
returns-then-w-offset c = utc_cut _ _ _ c.requires.zone_rows.some c.requires.zone_rows.good _ c.offset_at-offset.ensures c.if-w-offset.true

pub returns : goal.returns
returns c = utc_by_holds _ _ _ c.requires.zone_rows.some c.requires.zone_rows.good _ c.offset_at-offset.ensures c.if-w-offset.false
