-- `events::rows::put_row` meets its contract: the twelve numbers stand in the part that was copied to, and all outside it are as they were.
use Rattle.events.proofs.EntryRows.{row_put}
use native.Mathlib.Omega.{arith}
use Rattle.events.proofs.rows.put_row.Goals as goal

pub returns : goal.returns
returns c = row_put _ _ _ _ _ (omega arith) (omega arith) c.copy_from_slice.ensures.len c.copy_from_slice.ensures.after
