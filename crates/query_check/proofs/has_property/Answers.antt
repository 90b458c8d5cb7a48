-- `query_check::has_property` meets its contract: each property is asked whether it is one of the component.
use Rattle.std.proofs.Common.{rules, refl}
use borrow.Author.Tests.{tests}
use Rattle.query.proofs.Counting.{any_below}
use Rattle.query_check.specs.WellFormed.{has_property}
use Rattle.query_check.proofs.has_property.Goals as goal

pub returns : goal.returns
unfolding has_property
returns c = any_below _ _ refl (λ x b q k. search (rules, tests)) c.any.ensures.ran
