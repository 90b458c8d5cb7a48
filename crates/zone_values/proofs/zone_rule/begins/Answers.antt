-- `zone_values::zone_rule::begins` meets its contract: a shorter text does not begin with the name.
use Rattle.zone_values.proofs.ZoneRuleLaws.{begins_short}
use mathlib.Core.Path.{sym}
use Rattle.zone_values.proofs.zone_rule.begins.Goals as goal

pub returns-then-t-n : goal.returns-then-t-n
returns-then-t-n c = sym (begins_short _ _ c.if-t-n.true)
