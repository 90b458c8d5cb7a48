-- `zone_values::zone_rule::zone_part` meets its contract: a text that begins with a name is at least as long as it.
use Rattle.ascii.specs.Words.{ascii}
use Rattle.zone_values.proofs.ZoneRuleLaws.{begins_length}
use mathlib.Core.Path.{sym, ◌∙◌}
use Rattle.zone_values.proofs.zone_rule.zone_part.Goals as goal

pub slice_bounds-short_number-count : goal.slice_bounds-short_number-count
slice_bounds-short_number-count c = begins_length (ascii "BYMONTH=") _ (sym c.begins.ensures ∙ c.if-begins.true)

pub slice_bounds-short_number-start : goal.slice_bounds-short_number-start
slice_bounds-short_number-start c = begins_length (ascii "BYMONTH=") _ (sym c.begins.ensures ∙ c.if-begins.true)

pub slice_bounds-day_part-count : goal.slice_bounds-day_part-count
slice_bounds-day_part-count c = begins_length (ascii "BYDAY=") _ (sym c.begins-2.ensures ∙ c.if-begins-2.true)

pub slice_bounds-day_part-start : goal.slice_bounds-day_part-start
slice_bounds-day_part-start c = begins_length (ascii "BYDAY=") _ (sym c.begins-2.ensures ∙ c.if-begins-2.true)
