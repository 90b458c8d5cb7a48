-- `query_check::has_parameter_record` meets its contract: each parameter is asked whether it is one of the property.
use Rattle.std.proofs.Common.{rules, refl}
use borrow.Author.Tests.{tests}
use Rattle.query.proofs.Counting.{any_below}
use Rattle.query_check.specs.WellFormed.{has_parameter_record}
use Rattle.query_check.proofs.has_parameter_record.Goals as goal

pub returns : goal.returns
unfolding has_parameter_record
returns c = any_below _ _ refl (λ x b q k. search (rules, tests)) c.any.ensures.ran
