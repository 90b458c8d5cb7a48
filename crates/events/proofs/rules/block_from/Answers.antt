-- `events::rules::block_from` meets its contract: where both are given the test is that of the definition.
use mathlib.Core.Path.{◌∙◌}
use Rattle.std.proofs.Common.{rules}
use Rattle.events.proofs.Events.{bound_of, both_given, start_given, no_start}
use Rattle.events.proofs.rules.block_from.Goals as goal

pub returns-in-Some-Some : goal.returns-in-Some-Some
returns-in-Some-Some c = c.then_some.ensures ∙ both_given _ _ _ _ c.in-Some-Some.is-0 c.in-Some-Some.is-1 (bound_of _ _ c.map.ensures.cases (λ t n q. search rules)) (bound_of _ _ c.map-2.ensures.cases (λ t n q. search rules))

pub returns-in_default : goal.returns-in_default
returns-in_default c = start_given _ _ _ c.in_default.is-0 c.in_default.is-1 (bound_of _ _ c.map.ensures.cases (λ t n q. search rules)) (bound_of _ _ c.map-2.ensures.cases (λ t n q. search rules))

pub returns-in_default-2 : goal.returns-in_default-2
returns-in_default-2 c = no_start _ _ _ c.in_default.is-0 (bound_of _ _ c.map.ensures.cases (λ t n q. search rules)) (bound_of _ _ c.map-2.ensures.cases (λ t n q. search rules))
