use Rattle.table.specs.Tables.{ends_of}
use Rattle.table.proofs.Columns.{Passing}
use Rattle.table.proofs.skip.Given as goal

abbrev pub invariant-loop-i : goal.invariant-loop-i
invariant-loop-i l = Passing (ends_of l.spans) l.n l.from l.i
