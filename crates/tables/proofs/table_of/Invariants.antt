use Prim.Native.Nat.{◌*◌}
use lib.ListN.{length}
use Rattle.table.specs.Tables.{starts_of, ends_of, table_of}
use Rattle.table.specs.Columns.{Passed}
use Rattle.tables.proofs.Building.{Building}
use Rattle.tables.proofs.table_of.Given as goal

abbrev pub invariant-loop-i : goal.invariant-loop-i
invariant-loop-i l = Building l.column l.n l.place (length (starts_of l.initial.spans)) (table_of l.t (starts_of l.spans) (ends_of l.spans)) l.i (3 * l.i) × Passed l.t (ends_of l.spans)
