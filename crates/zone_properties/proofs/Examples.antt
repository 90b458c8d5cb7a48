-- Lines of a zone, good and bad, with what each says: one table, one statement, computed from the definitions.
use Rattle.std.specs.Prelude.{Err, None, Ok, Some}
use Prim.Native.Nat.{ℕ}
use Prim.Native.String.{String}
use mathlib.Core.Path.{◌≡◌, refl}
use mathlib.Core.Bool.{Bool, true, cond, ◌&&◌}
use mathlib.Core.List.{List, [], ◌∷◌}
use Rattle.ascii.specs.Bytes.{upper, is_digit}
use Rattle.ascii.specs.Names.{same_name, same_bytes}
use Rattle.ascii.specs.Words.{ascii}
use Rattle.ascii.proofs.Bools.{and_left, and_right}
use Rattle.ascii.proofs.Names.{same_bytes_eq}
use Rattle.time.specs.Days.{is_leap, year_days, days_before_year, month_lengths, length_in, before_in, month_days, days_before_month, day_number, is_day}
use Rattle.time.specs.DateTime.{digit_pair, pair_at, joined, year_at, checked_day, three, date_at, checked_time, time_at, clock_of, clock_at, read_date_time}
use Rattle.time.specs.Grammar.{decimal}
use Rattle.line.specs.Splitting.{first_outside, before, after, split_parts, quotes_off, plain_split}
use Rattle.line.specs.Reading.{head_of, value_of, name_of, parameter_texts, values_of, parameter_name, parameter_of, line_of, parameters_named, some_list}
use Rattle.line.specs.Reading.{pooled, values_named, has_parameter, has_twice, has_list, first_value}
use Rattle.values.specs.Rule.{number_to}
use Rattle.values.specs.Times.{form_named, form_of}
use Rattle.zone_values.specs.Offset.{second_at, offset_size, signed, signed_by, read_offset}
use Rattle.zone_values.specs.Onset.{floating_only, onset_by, onset_of}
use Rattle.zone_values.specs.ZoneRule.{short_number, later_weekday, weekday_of, day_by, day_after, day_part, begins, zone_part}
use Rattle.zone_values.specs.ZoneRule.{is_yearly, with_day, with_month, dated, in_any_order, read_zone_rule}
use Rattle.zone_properties.specs.declared.ZoneScope.{ZoneScope}
use Rattle.zone_properties.specs.declared.ZoneValue.{ZoneValue}
use Rattle.values.specs.declared.rule.ValueError.{ValueError}
use Rattle.zone_properties.specs.Parts.{Said}
use Rattle.zone_properties.specs.ZoneProperties.{part_property, zone_property_of, zone_value_as, zone_value_of}

-- a value told by numbers: its case, and what it holds
abbrev pub value_told : ZoneValue → List ℕ
value_told ZoneValue.Tzid = 1 ∷ []
value_told (ZoneValue.Onset n) = 2 ∷ n ∷ []
value_told (ZoneValue.From n) = 3 ∷ n ∷ []
value_told (ZoneValue.To n) = 4 ∷ n ∷ []
value_told (ZoneValue.Rule r) = 5 ∷ r.month ∷ r.day.others ∷ cond r.day.back 1 0 ∷ r.day.weekday ∷ []

-- what a line says told by numbers: a value, nothing, or the number of the refusal
abbrev pub told : Said → List ℕ
told (Ok (Some v)) = value_told v
told (Ok None) = 0 ∷ []
told (Err ValueError.Unsupported) = 8 ∷ []
told (Err ValueError.Bad) = 9 ∷ []

-- a line where it stands, and what it says
pub record Row : Type 0 where
  pub scope : ZoneScope
  pub text : String
  pub expected : List ℕ

abbrev pub says_of : Row → List ℕ
says_of r = told (zone_value_of r.scope (line_of (ascii r.text)))

abbrev pub AllSay : List Row → Type 0
AllSay [] = Unit {0}
AllSay (r ∷ rs) = (says_of r ≡ r.expected) × AllSay rs

abbrev all_same : List Row → Bool
all_same [] = true
all_same (r ∷ rs) = same_bytes (says_of r) r.expected && all_same rs

sound : (rs : List Row) → all_same rs ≡ true → AllSay rs
sound [] e = tt
sound (r ∷ rs) e = (
  same_bytes_eq (says_of r) r.expected (and_left (same_bytes (says_of r) r.expected) (all_same rs) e),
  sound rs (and_right (same_bytes (says_of r) r.expected) (all_same rs) e),
)

abbrev in_zone : String → List ℕ → Row
in_zone t e = record { scope = ZoneScope.Zone; text = t; expected = e }

abbrev in_part : String → List ℕ → Row
in_part t e = record { scope = ZoneScope.Part; text = t; expected = e }

abbrev elsewhere : String → List ℕ → Row
elsewhere t e = record { scope = ZoneScope.Other; text = t; expected = e }

abbrev unread : List ℕ
unread = 0 ∷ []

abbrev unsupported : List ℕ
unsupported = 8 ∷ []

abbrev bad : List ℕ
bad = 9 ∷ []

-- a rule: month, days of that name before it, from the end (1) or not, weekday
abbrev rule : ℕ → ℕ → ℕ → ℕ → List ℕ
rule m n b w = 5 ∷ m ∷ n ∷ b ∷ w ∷ []

abbrev pub table : List Row
table =
    in_zone "TZID:Europe/Paris" (1 ∷ [])
    ∷ in_zone "tzid;X=1:" (1 ∷ [])
    ∷ in_zone "RDATE:20240310T020000" unread
    ∷ in_zone "DTSTART:20240310T020000" unread
    ∷ elsewhere "TZID:Z" unread
    ∷ elsewhere "RDATE:20240310T020000" unread
    ∷ in_part "TZID:Z" unread
    ∷ in_part "EXDATE:x" unread
    ∷ in_part "EXRULE:x" unread
    ∷ in_part "DURATION:x" unread
    ∷ in_part "RDATE:x" unsupported
    ∷ in_part "rdate;VALUE=X:" unsupported
    ∷ in_part "TZOFFSETFROM:+0000" (3 ∷ 86400 ∷ [])
    ∷ in_part "tzoffsetto;X=1:-0500" (4 ∷ 68400 ∷ [])
    ∷ in_part "TZOFFSETTO:-0000" bad
    ∷ in_part "TZOFFSETTO:-000000" bad
    ∷ in_part "TZOFFSETTO:-000060" (4 ∷ 86341 ∷ [])
    ∷ in_part "TZOFFSETTO:+235960" (4 ∷ 172799 ∷ [])
    ∷ in_part "TZOFFSETTO:-235959" (4 ∷ 1 ∷ [])
    ∷ in_part "TZOFFSETTO:+2400" bad
    ∷ in_part "TZOFFSETTO:+0060" bad
    ∷ in_part "TZOFFSETTO:+000061" bad
    ∷ in_part "TZOFFSETTO:+01" bad
    ∷ in_part "TZOFFSETTO:+01000" bad
    ∷ in_part "TZOFFSETTO:+01:00" bad
    ∷ in_part "TZOFFSETTO:+0100Z" bad
    ∷ in_part "TZOFFSETTO:01000" bad
    ∷ in_part "TZOFFSETTO: +0100" bad
    ∷ in_part "TZOFFSETTO:" bad
    ∷ in_part "RRULE:FREQ=YEARLY;BYMONTH=3;BYDAY=2SU" (rule 3 1 0 0)
    ∷ in_part "rrule;X=1:byday=-1su;freq=yearly;bymonth=10" (rule 10 0 1 0)
    ∷ in_part "RRULE:BYMONTH=03;FREQ=YEARLY;BYDAY=+2SU" (rule 3 1 0 0)
    ∷ in_part "RRULE:BYMONTH=12;BYDAY=02su;FREQ=YEARLY" (rule 12 1 0 0)
    ∷ in_part "RRULE:FREQ=YEARLY;BYDAY=-05SU;BYMONTH=1" (rule 1 4 1 0)
    ∷ in_part "RRULE:BYDAY=5SA;BYMONTH=1;FREQ=YEARLY" (rule 1 4 0 6)
    ∷ in_part "RRULE:" unsupported
    ∷ in_part "RRULE:x" unsupported
    ∷ in_part "RRULE:FREQ=YEARLY;BYMONTH=3" unsupported
    ∷ in_part "RRULE:FREQ=YEARLY;BYMONTH=3;BYMONTH=3" unsupported
    ∷ in_part "RRULE:FREQ=YEARLY;BYMONTH=3;BYDAY=2SU;BYDAY=2SU" unsupported
    ∷ in_part "RRULE:FREQ=YEARLY;BYMONTH=3;BYDAY=2SU;" unsupported
    ∷ in_part "RRULE:FREQ=YEARLY;BYMONTH=3;BYDAY=2SU;INTERVAL=1" unsupported
    ∷ in_part "RRULE:FREQ=YEARLY;BYMONTH=3;BYDAY=2SU;WKST=MO" unsupported
    ∷ in_part "RRULE:FREQ=YEARLY;BYMONTH=3;BYDAY=2SU;UNTIL=20300101T000000Z" unsupported
    ∷ in_part "RRULE:FREQ=MONTHLY;BYMONTH=3;BYDAY=2SU" unsupported
    ∷ in_part "RRULE:FREQ=YEARLY;BYMONTH=3,4;BYDAY=2SU" unsupported
    ∷ in_part "RRULE:FREQ=YEARLY;BYMONTH=13;BYDAY=2SU" unsupported
    ∷ in_part "RRULE:FREQ=YEARLY;BYMONTH=0;BYDAY=2SU" unsupported
    ∷ in_part "RRULE:FREQ=YEARLY;BYMONTH=+3;BYDAY=2SU" unsupported
    ∷ in_part "RRULE:FREQ=YEARLY;BYMONTH=003;BYDAY=2SU" unsupported
    ∷ in_part "RRULE:FREQ=YEARLY;BYMONTH=3;BYDAY=2SU,3SU" unsupported
    ∷ in_part "RRULE:FREQ=YEARLY;BYMONTH=3;BYDAY=SU" unsupported
    ∷ in_part "RRULE:FREQ=YEARLY;BYMONTH=3;BYDAY=0SU" unsupported
    ∷ in_part "RRULE:FREQ=YEARLY;BYMONTH=3;BYDAY=6SU" unsupported
    ∷ in_part "RRULE:FREQ=YEARLY;BYMONTH=3;BYDAY=-6SU" unsupported
    ∷ in_part "RRULE:FREQ=YEARLY;BYMONTH=3;BYDAY=002SU" unsupported
    ∷ in_part "RRULE:FREQ=YEARLY;BYMONTH=3;BYDAY=2SX" unsupported
    ∷ in_part "RRULE:FREQ=YEARLY;BYMONTH=3;BYDAY=" unsupported
    ∷ in_part "DTSTART:00000101T000000" (2 ∷ 0 ∷ [])
    ∷ in_part "DTSTART;VALUE=DATE-TIME:00000229T000060" (2 ∷ 5097659 ∷ [])
    ∷ in_part "dtstart;value=\"date-time\";X=1:00001231T235959" (2 ∷ 31622399 ∷ [])
    ∷ in_part "DTSTART:00000101T000000Z" bad
    ∷ in_part "DTSTART:00000101" bad
    ∷ in_part "DTSTART;VALUE=DATE:00000101" bad
    ∷ in_part "DTSTART;VALUE=DATE:00000101T000000" bad
    ∷ in_part "DTSTART;VALUE=TEXT:00000101T000000" bad
    ∷ in_part "DTSTART;VALUE=DATE-TIME;VALUE=DATE-TIME:00000101T000000" bad
    ∷ in_part "DTSTART;VALUE=DATE-TIME,DATE-TIME:00000101T000000" bad
    ∷ in_part "DTSTART;TZID=Z:00000101T000000" bad
    ∷ in_part "DTSTART;TZID=:00000101T000000" bad
    ∷ in_part "DTSTART:00000230T000000" bad
    ∷ in_part "DTSTART:00000101T240000" bad
    ∷ in_part "DTSTART:" bad
    ∷ []

-- every line says what stands beside it
pub edges : AllSay table
unfolding zone_value_of zone_property_of part_property zone_value_as read_offset signed_by signed offset_size second_at onset_of onset_by floating_only read_zone_rule in_any_order dated with_month with_day is_yearly zone_part begins day_part day_after day_by weekday_of later_weekday short_number number_to decimal form_of form_named read_date_time clock_at clock_of time_at checked_time date_at three checked_day year_at joined pair_at digit_pair is_day day_number days_before_month month_days before_in length_in month_lengths days_before_year year_days is_leap line_of name_of head_of value_of parameter_texts parameter_of parameter_name values_of parameters_named some_list pooled values_named has_parameter has_twice has_list first_value plain_split split_parts quotes_off first_outside before after same_name upper is_digit
edges = sound table refl
