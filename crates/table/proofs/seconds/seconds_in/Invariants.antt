use Rattle.table.specs.Tables.{starts_of, ends_of}
use Rattle.table.proofs.SecondsLaws.{Counted}
use Rattle.table.proofs.seconds.seconds_in.Given as goal

abbrev pub invariant-loop-i : goal.invariant-loop-i
invariant-loop-i l = Counted l.first l.count (starts_of l.spans) (ends_of l.spans) l.sum l.i
