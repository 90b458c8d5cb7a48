-- `zones::rows::put_part` meets its contract: the numbers that are copied are those of the part, and no others change.
use mathlib.Core.Path.{refl}
use native.Mathlib.Omega.{arith}
use Rattle.zones.proofs.PartRows.{part_copied, put_as}
use Rattle.zones.proofs.rows.put_part.Goals as goal

pub returns : goal.returns
returns c = put_as _ (part_copied _ c.args.i (omega arith) c.copy_from_slice.ensures.after refl c.requires)
