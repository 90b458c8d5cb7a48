use Rattle.series.proofs.MovedLaws.{Moving}
use Rattle.series.proofs.moved.store_moved.Given as goal

abbrev pub invariant-loop-k : goal.invariant-loop-k
invariant-loop-k l = Moving l.c l.cal.text.now l.cal.rows.now l.m l.u l.initial.out l.n l.out l.end l.k
