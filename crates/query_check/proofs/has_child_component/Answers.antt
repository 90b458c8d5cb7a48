-- `query_check::has_child_component` meets its contract: each component is asked whether it is a child.
use Rattle.std.proofs.Common.{rules, refl}
use borrow.Author.Tests.{tests}
use Rattle.query.proofs.Counting.{any_below}
use Rattle.query_check.specs.WellFormed.{has_child_component}
use Rattle.query_check.proofs.has_child_component.Goals as goal

pub returns : goal.returns
unfolding has_child_component
returns c = any_below _ _ refl (λ x b q k. search (rules, tests)) c.any.ensures.ran
