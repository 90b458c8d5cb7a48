use Rattle.series.specs.VEventRows.{names}
use Rattle.series.proofs.MasterLaws.{SomeLeft}
use Rattle.series.proofs.masters.is_moved.Given as goal

abbrev pub invariant-loop-k : goal.invariant-loop-k
invariant-loop-k l = SomeLeft l.c l.cal.text.now l.cal.rows.now l.m (names l.u l.x) l.k
