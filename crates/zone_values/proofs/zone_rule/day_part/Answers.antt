-- `zone_values::zone_rule::day_part` meets its contract: no byte is no day.
use Rattle.zone_values.proofs.ZoneRuleLaws.{day_empty}
use borrow.Author.Tests.{eqb-true}
use mathlib.Core.Path.{sym, ◌∙◌}
use native.Mathlib.Omega.{arith}
use Rattle.zone_values.proofs.zone_rule.day_part.Goals as goal

pub returns-then-is_empty : goal.returns-then-is_empty
returns-then-is_empty c = day_empty _ (omega (arith, eqb-true _ 0 (sym c.is_empty.ensures ∙ c.if-is_empty.true)))
