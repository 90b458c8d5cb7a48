-- `refusals::read_offset` meets its contract: both bounds are tested before the sum, so that it fits and is not negative.
use mir.Syntax.{w64}
use mir.ValLaws.{to_z-of_z}
use Rattle.refusals.proofs.Offsets.{too_low, too_high, sum_fits, cast_fits, in_bounds}
use Rattle.refusals.proofs.read_offset.Goals as goal

pub returns-then-offset-ltminus50400 : goal.returns-then-offset-ltminus50400
returns-then-offset-ltminus50400 c = too_low (to_z-of_z w64 c.args.offset c.ranges.offset) c.if-offset-ltminus50400.true

pub returns-then-offset-gt50400 : goal.returns-then-offset-gt50400
returns-then-offset-gt50400 c = too_high (to_z-of_z w64 c.args.offset c.ranges.offset) c.if-offset-gt50400.true

pub overflow_add-result : goal.overflow_add-result
overflow_add-result c =
    sum_fits (to_z-of_z w64 c.args.offset c.ranges.offset) c.if-offset-ltminus50400.false c.if-offset-gt50400.false

pub overflow_cast-result : goal.overflow_cast-result
overflow_cast-result c =
    cast_fits (to_z-of_z w64 c.args.offset c.ranges.offset) c.if-offset-ltminus50400.false c.if-offset-gt50400.false

pub returns : goal.returns
returns c =
    in_bounds (to_z-of_z w64 c.args.offset c.ranges.offset) c.if-offset-ltminus50400.false c.if-offset-gt50400.false
