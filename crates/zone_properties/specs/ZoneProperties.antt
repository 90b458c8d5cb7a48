-- What a line of a time zone says (R-5), by where in the zone it stands directly.
-- Here, and nowhere else, it is decided which properties of a zone are read.
use Rattle.std.specs.Prelude.{ℕ, cond, List, Err, None, Ok, Option, Result, Some}
use Rattle.zone_values.specs.declared.zone_rule.ZoneRule.{ZoneRule}
use Rattle.ascii.specs.Names.{same_name}
use Rattle.ascii.specs.Words.{ascii}
use Rattle.line.specs.Grammar.{ContentLine}
use Rattle.zone_values.specs.Offset.{read_offset}
use Rattle.zone_values.specs.Onset.{onset_of}
use Rattle.zone_values.specs.ZoneRule.{read_zone_rule}
use Rattle.values.specs.declared.rule.ValueError.{ValueError}
use Rattle.zone_properties.specs.declared.ZoneScope.{ZoneScope}
use Rattle.zone_properties.specs.declared.ZoneProperty.{ZoneProperty}
use Rattle.zone_properties.specs.declared.ZoneValue.{ZoneValue}

-- the words of a part, without regard to case
unfoldable pub part_property : List ℕ → Option ZoneProperty
part_property n =
    cond (same_name n (ascii "DTSTART")) (Some ZoneProperty.Start)
    (cond (same_name n (ascii "TZOFFSETFROM")) (Some ZoneProperty.From)
    (cond (same_name n (ascii "TZOFFSETTO")) (Some ZoneProperty.To)
    (cond (same_name n (ascii "RRULE")) (Some ZoneProperty.Rule) (cond (same_name n (ascii "RDATE")) (Some ZoneProperty.Dates) None))))

-- in the zone itself TZID alone is read; deeper, and in any other component, nothing is
unfoldable pub zone_property_of : ZoneScope → List ℕ → Option ZoneProperty
zone_property_of ZoneScope.Zone n = cond (same_name n (ascii "TZID")) (Some ZoneProperty.Tzid) None
zone_property_of ZoneScope.Part n = part_property n
zone_property_of ZoneScope.Other n = None

abbrev pub onset_by : Option ℕ → Result ZoneValue ValueError
onset_by (Some n) = Ok (ZoneValue.Onset n)
onset_by None = Err ValueError.Bad

abbrev pub from_by : Option ℕ → Result ZoneValue ValueError
from_by (Some n) = Ok (ZoneValue.From n)
from_by None = Err ValueError.Bad

abbrev pub to_by : Option ℕ → Result ZoneValue ValueError
to_by (Some n) = Ok (ZoneValue.To n)
to_by None = Err ValueError.Bad

abbrev pub rule_by : Option ZoneRule → Result ZoneValue ValueError
rule_by (Some r) = Ok (ZoneValue.Rule r)
rule_by None = Err ValueError.Unsupported

-- what a line says as a property; only DTSTART has its parameters looked at, and TZID may have any value
unfoldable pub zone_value_as : ZoneProperty → ContentLine → Result ZoneValue ValueError
zone_value_as ZoneProperty.Tzid x = Ok ZoneValue.Tzid
zone_value_as ZoneProperty.Start x = onset_by (onset_of x)
zone_value_as ZoneProperty.From x = from_by (read_offset x.value)
zone_value_as ZoneProperty.To x = to_by (read_offset x.value)
zone_value_as ZoneProperty.Rule x = rule_by (read_zone_rule x.value)
zone_value_as ZoneProperty.Dates x = Err ValueError.Unsupported

-- what is read, or why it is refused; a line that is no property says nothing
abbrev pub some_value : Result ZoneValue ValueError → Result (Option ZoneValue) ValueError
some_value (Ok v) = Ok (Some v)
some_value (Err e) = Err e

abbrev pub value_where : Option ZoneProperty → ContentLine → Result (Option ZoneValue) ValueError
value_where (Some p) x = some_value (zone_value_as p x)
value_where None x = Ok None

unfoldable pub zone_value_of : ZoneScope → ContentLine → Result (Option ZoneValue) ValueError
zone_value_of s x = value_where (zone_property_of s x.name) x
