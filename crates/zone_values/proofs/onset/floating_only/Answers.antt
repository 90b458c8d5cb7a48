-- `zone_values::onset::floating_only` meets its contract: no DATE-TIME, or one that is floating or not.
use Rattle.zone_values.specs.Onset.{floating_only}
use Rattle.zone_values.proofs.OnsetLaws.{if_floating_is}
use mathlib.Core.Path.{sym, ◌∙◌}
use Rattle.zone_values.proofs.onset.floating_only.Goals as goal

pub returns-in_err-kind : goal.returns-in_err-kind
unfolding floating_only
returns-in_err-kind c = rw (c.in_err-kind.was) c.from_residual.ensures

pub returns-then-eq : goal.returns-then-eq
unfolding floating_only
returns-then-eq c = rw (c.in_ok-kind.was, if_floating_is c.in_ok-kind.field-0.kind c.in_ok-kind.field-0.clock, sym c.eq.ensures ∙ c.if-eq.true)

pub returns-else-eq : goal.returns-else-eq
unfolding floating_only
returns-else-eq c = rw (c.in_ok-kind.was, if_floating_is c.in_ok-kind.field-0.kind c.in_ok-kind.field-0.clock, sym c.eq.ensures ∙ c.if-eq.false)
