-- `tables::table_at` meets its contract: the table is first in the part of the columns that was lent, and what stands before that part stays.
use Rattle.tables.proofs.Building.{built_at}
use native.Mathlib.Omega.{arith}
use borrow.Author.Rules.{rules}
use Rattle.tables.proofs.table_at.Goals as goal

pub returns : goal.returns
returns c = built_at _ _ _ _ (omega arith) (search rules) c.table_of.ensures
