-- `filter::ranges::line_in` meets its contract: a line without periods touches no range; any other goes by those of its value.
use Rattle.filter.proofs.RangesLaws.{line_overlaps, line_gives_none}
use Rattle.filter.proofs.ranges.line_in.Goals as goal

pub returns-then-gives_periods : goal.returns-then-gives_periods
returns-then-gives_periods c = line_overlaps _ _ _ _ (c.gives_periods.ensures _) c.if-gives_periods.true c.value.ensures c.value_in.ensures

pub returns-else-gives_periods : goal.returns-else-gives_periods
returns-else-gives_periods c = line_gives_none _ _ _ _ (c.gives_periods.ensures _) c.if-gives_periods.false
