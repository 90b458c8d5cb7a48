-- `structure::rows::put_row` meets its contract: the four numbers stand in the part that was copied to, and all outside it are as they were.
use Rattle.structure.proofs.RowsLaws.{row_put}
use native.Mathlib.Omega.{arith}
use Rattle.structure.proofs.rows.put_row.Goals as goal

pub returns : goal.returns
returns c = row_put _ _ _ _ _ (omega arith) (omega arith) c.copy_from_slice.ensures.len c.copy_from_slice.ensures.after
