-- `events::rules::days_by` meets its contract: it is the number of the rule that is given.
use Rattle.std.proofs.Common.{rules}
use Rattle.events.proofs.Events.{days_said}
use Rattle.events.proofs.rules.days_by.Goals as goal

pub returns : goal.returns
returns c = days_said _ _ c.map_or.ensures (λ x q. search rules)
