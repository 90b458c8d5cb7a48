-- `query_check::components_good` meets its contract: each component is asked.
use Rattle.std.proofs.Common.{rules, refl}
use borrow.Author.Tests.{tests}
use Rattle.query.proofs.Counting.{all_below}
use Rattle.query_check.specs.WellFormed.{components_good}
use Rattle.query_check.proofs.components_good.Goals as goal

pub returns : goal.returns
unfolding components_good
returns c = all_below _ _ refl (λ x b q k. search (rules, tests)) c.all.ensures.ran
