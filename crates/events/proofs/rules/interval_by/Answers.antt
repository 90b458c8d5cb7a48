-- `events::rules::interval_by` meets its contract: it is the number of the rule that is given.
use Rattle.std.proofs.Common.{rules}
use Rattle.events.proofs.Events.{interval_said}
use Rattle.events.proofs.rules.interval_by.Goals as goal

pub returns : goal.returns
returns c = interval_said _ _ c.map_or.ensures (λ x q. search rules)
