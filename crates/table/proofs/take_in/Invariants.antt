use Rattle.table.specs.Tables.{starts_of, ends_of}
use Rattle.table.proofs.Columns.{Taking}
use Rattle.table.proofs.take_in.Given as goal

abbrev pub invariant-loop-next : goal.invariant-loop-next
invariant-loop-next l = Taking (starts_of l.spans) (ends_of l.spans) l.n l.i l.from l.to l.next l.start l.end
