use Rattle.series.proofs.ColumnsLaws.{NothingSoFar}
use Rattle.series.proofs.columns.is_nothing_taken.Given as goal

abbrev pub invariant-loop-k : goal.invariant-loop-k
invariant-loop-k l = NothingSoFar l.cal.rows.now l.links l.m l.k
