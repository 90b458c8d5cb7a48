-- `zone_values::zone_rule::day_after` meets its contract: fewer than two bytes are no day; of more the last two are the weekday.
use Rattle.zone_values.proofs.ZoneRuleLaws.{short_some, after_short}
use mathlib.Core.Path.{sym, ◌∙◌}
use Rattle.zone_values.proofs.zone_rule.day_after.Goals as goal

pub returns-then-t-lt2 : goal.returns-then-t-lt2
returns-then-t-lt2 c = after_short _ _ c.if-t-lt2.true

pub overflow_sub-result : goal.overflow_sub-result
overflow_sub-result c = short_some _ _ _ (sym c.short_number.ensures ∙ c.in_ok-number.was)
