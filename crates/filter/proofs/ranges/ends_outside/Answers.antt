-- `filter::ranges::ends_outside` meets its contract: only both ends together tell.
use Rattle.filter.proofs.RangesLaws.{between_outside, no_outside}
use Rattle.filter.proofs.ranges.ends_outside.Goals as goal

pub returns-in-Some-end : goal.returns-in-Some-end
returns-in-Some-end c = λ e. between_outside _ _ _ _ _ c.in-Some.is c.in-Some-end.is c.between_in.ensures e

pub returns-in-None-end : goal.returns-in-None-end
returns-in-None-end c = λ e. no_outside _ _ _ e

pub returns-in-None : goal.returns-in-None
returns-in-None c = λ e. no_outside _ _ _ e
