-- `query_check::properties_misplaced` meets its contract: each property is asked.
use Rattle.std.proofs.Common.{rules, refl}
use borrow.Author.Tests.{tests}
use Rattle.query.proofs.Counting.{any_below}
use Rattle.query_check.specs.WellFormed.{properties_misplaced}
use Rattle.query_check.proofs.properties_misplaced.Goals as goal

pub returns : goal.returns
unfolding properties_misplaced
returns c = any_below _ _ refl (λ x b q k. search (rules, tests)) c.any.ensures.ran
