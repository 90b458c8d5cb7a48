use Rattle.series.proofs.PrintLaws.{Printing}
use Rattle.series.proofs.prints.fill_prints.Given as goal

abbrev pub invariant-loop-k : goal.invariant-loop-k
invariant-loop-k l = Printing l.c l.cal.text.now l.cal.rows.now l.m l.prints l.marks l.notes l.k
