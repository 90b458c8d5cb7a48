-- `zone_values::offset::read_offset` meets its contract: fewer than five bytes have no size.
use Rattle.zone_values.proofs.OffsetLaws.{offset_short}
use Rattle.zone_values.proofs.offset.read_offset.Goals as goal

pub returns-then-v-lt5 : goal.returns-then-v-lt5
returns-then-v-lt5 c = offset_short _ c.if-v-lt5.true
