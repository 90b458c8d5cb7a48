use Rattle.series.proofs.MasterLaws.{MasterLeft}
use Rattle.series.proofs.masters.master_of.Given as goal

abbrev pub invariant-loop-k : goal.invariant-loop-k
invariant-loop-k l = MasterLeft l.c l.cal.text.now l.cal.rows.now l.m l.u l.k
