-- `query_check::ranges_good` meets its contract: each range is asked.
use Rattle.std.proofs.Common.{rules, refl}
use borrow.Author.Tests.{tests}
use Rattle.query.proofs.Counting.{all_below}
use Rattle.query_check.specs.WellFormed.{ranges_good}
use Rattle.query_check.proofs.ranges_good.Goals as goal

pub returns : goal.returns
unfolding ranges_good
returns c = all_below _ _ refl (λ x b q k. search (rules, tests)) c.all.ensures.ran
