-- `filter::ranges::bounds_in` meets its contract: both ends decide where both are given, and the periods where not.
use Rattle.filter.proofs.RangesLaws.{both_ends, no_end, no_start}
use Rattle.filter.proofs.ranges.bounds_in.Goals as goal

pub returns-in-Some-end : goal.returns-in-Some-end
returns-in-Some-end c = both_ends _ _ _ _ _ _ _ c.in-Some.is c.in-Some-end.is c.between_in.ensures

pub returns-in-None-end : goal.returns-in-None-end
returns-in-None-end c = no_end _ _ _ _ _ _ c.in-Some.is c.in-None-end.is c.lines_in.ensures

pub returns-in-None : goal.returns-in-None
returns-in-None c = no_start _ _ _ _ _ c.in-None.is c.lines_in-in-None.ensures
