use Rattle.table.specs.Tables.{starts_of, ends_of, rows}
use Rattle.report.proofs.Writing.{LinesLeft}
use Rattle.report.proofs.lines.put_periods.Given as goal

abbrev pub invariant-loop-span : goal.invariant-loop-span
invariant-loop-span l = LinesLeft l.head (rows (starts_of l.spans) (ends_of l.spans)) l.initial.out l.at l.out l.place l.span-index
