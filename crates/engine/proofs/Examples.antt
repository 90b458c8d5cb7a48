-- Whole match calls at the edges: one table, one statement, computed from the definitions.
use Prim.Native.Nat.{ℕ}
use mathlib.Core.Path.{◌≡◌, refl}
use mathlib.Core.Bool.{true, false}
use mathlib.Core.List.{List, [], ◌∷◌, ◌++◌}
use Prim.Native.String.{String}
use lib.IntN.{ℤ, pos, negsuc}
use Rattle.ascii.specs.Words.{ascii}
use Rattle.ascii.specs.Bytes.{is_digit, is_letter, is_name_byte, is_control, upper}
use Rattle.ascii.specs.Names.{same_name, is_name}
use Rattle.text.specs.Lines.{cut, content_lines}
use Rattle.text.specs.Unfolding.{is_break, is_blank, is_fold, unfolded}
use Rattle.time.specs.DateTime.{digit_pair, pair_at, joined, year_at, checked_day, three, date_at, checked_time, time_at, clock_of, clock_at, read_date_time}
use Rattle.time.specs.Days.{is_leap, year_days, days_before_year, month_lengths, length_in, before_in, month_days, days_before_month, day_number, is_day}
use Rattle.time.specs.Limits.{epoch, since, utc_second}
use Rattle.query.specs.Records.{text_place, text_from, text_of, component_at}
use Rattle.query.specs.Sections.{byte_at, count_fits, place_within, behind_records, behind_text, behind_texts, behind_text_section, sections_of}
use Rattle.query.specs.Counting.{every_below, some_below}
use Rattle.line.specs.Splitting.{first_outside, before, after, split_parts}
use Rattle.line.specs.Reading.{head_of, value_of, name_of, parameter_texts, line_of, parameters_named, some_list, has_parameter, has_twice, has_list}
use Rattle.line.specs.Scanner.{step, is_ending, scan, is_well_formed}
use Rattle.line.specs.WellFormed.{line_check_from, line_check}
use Rattle.query_check.specs.WellFormed.{name_good, has_child_component, has_property, parent_good, component_good, ranges_good, components_good, properties_good, parameters_good, records_good, sections_good, query_good, component_misplaced, components_misplaced, properties_misplaced, range_misplaced}
use Rattle.delimiters.specs.Delimiters.{delimiter_of}
use Rattle.delimiters.specs.Innermost.{is_calendar, is_event, may_begin}
use Rattle.values.specs.Times.{utc_of, at_second, time_by, read_time, form_of, time_of}
use Rattle.property.specs.Properties.{property_of, time_in, time_fact, unless_zoned, value_as, property_value_of, before_items, items_good, with_items}
use Rattle.nesting.specs.Components.{delimited_from, items_of, tree_of, components_in, properties_in, items_below}
use Rattle.nesting.specs.Nesting.{after_begin, after_end, after_property, walk, outcome, nesting_of}
use Rattle.nesting.specs.Files.{tree_in}
use Rattle.property_tests.specs.PropertyTests.{properties_hold}
use Rattle.events.specs.Events.{ending_by, repeat_by, event_made, event_with, event_from, event_by}
use Rattle.events.specs.ComponentProperties.{no_properties, with_property, with_span, with_busy, with_properties}
use Rattle.overrides.specs.Lists.{some as some_of, is_empty, two_or_more}
use Rattle.overrides.specs.Rules.{has_rule, other_kind, override_breaks, event_breaks, breaks_alone, masters_clash, overrides_clash, misnames, misplaced, override_misplaced, breaks_beside, breaks}
use Rattle.overrides.specs.VEvents.{is_master, is_override, has_uid, shares_uid, master_of}
use Rattle.calendar.specs.Identities.{uids_by, recurrence_ids_by, exceptions_by, uids_in, recurrence_ids_in, exceptions_in, identity_in, identity_of}
use Rattle.calendar.specs.Meaning.{scope_of, component_scope, property_values_in, fault_or, fault_in, value_fault, event_of, vevents_as, vevents, vevent_of, breaks_rule, broken_or, first_fault, rule_fault, file_lines, components_of}
use Rattle.refusals.specs.Refusals.{first_refusal, size_rows, line_row, structure_rows, unsupported_row, bad_value_row, rule_row, calendar_rows, contents_rows}
use Rattle.refusals.specs.Offsets.{offset_good}
use Rattle.filter.specs.Tests.{range_holds, some_component_named, some_component, component_holds, children_hold, component_test, query_holds}
use Rattle.engine.specs.Answers.{Outcome, verdict, refusal, unless_refused}
use Rattle.engine.specs.Matching.{MatchCall, misplaced_in, query_rows, early_match_rows, offset_row, match_rows, verdict_by, verdict_of, match_outcome}

-- ---- the queries and the calendars

-- each line with its CR LF
abbrev file : List String → List ℕ
file [] = []
file (l ∷ ls) = ascii l ++ (13 ∷ 10 ∷ file ls)

-- a calendar with nothing in it, and one with a line in an event
abbrev empty : List ℕ
empty = file ("BEGIN:VCALENDAR" ∷ "END:VCALENDAR" ∷ [])

abbrev event : String → List ℕ
event l = file ("BEGIN:VCALENDAR" ∷ "BEGIN:VEVENT" ∷ l ∷ "END:VEVENT" ∷ "END:VCALENDAR" ∷ [])

-- a fold inside a name
abbrev folded : List ℕ
folded = ascii "BEGIN:VCAL" ++ (13 ∷ 10 ∷ 32 ∷ file ("ENDAR" ∷ "END:VCALENDAR" ∷ []))

-- two texts, then the records
abbrev query : List ℕ → List ℕ
query r = 0 ∷ 2 ∷ 9 ∷ ascii "VCALENDAR" ++ (6 ∷ ascii "VEVENT" ++ r)

-- a calendar; a calendar with an event; a calendar without; a badly formed query
abbrev any : List ℕ
any = query (1 ∷ 0 ∷ 0 ∷ 0 ∷ 0 ∷ 0 ∷ 0 ∷ [])

abbrev some : List ℕ
some = query (2 ∷ 0 ∷ 0 ∷ 0 ∷ 0 ∷ 0 ∷ 1 ∷ 0 ∷ 0 ∷ 0 ∷ 0 ∷ [])

abbrev none : List ℕ
none = query (2 ∷ 0 ∷ 0 ∷ 0 ∷ 0 ∷ 0 ∷ 1 ∷ 0 ∷ 1 ∷ 0 ∷ 0 ∷ [])

abbrev bad : List ℕ
bad = []

-- ---- the table

pub record Example : Type 0 where
  pub calendar : List ℕ
  pub query : List ℕ
  pub offset : ℤ
  pub expected : Outcome

abbrev room : List ℕ
room = ascii "a work buffer that has at least as many bytes as any of the calendars of this table, and some more besides"

abbrev pub call_of : Example → MatchCall
call_of x = record { calendar = x.calendar; query = x.query; offset = x.offset; work = room }

abbrev pub AllHold : List Example → Type 0
AllHold [] = Unit {0}
AllHold (x ∷ xs) = (match_outcome (call_of x) ≡ x.expected) × AllHold xs

abbrev row : List ℕ → List ℕ → ℤ → Outcome → Example
row c q o n = record { calendar = c; query = q; offset = o; expected = n }

abbrev pub table : List Example
table =
    row empty any (pos 0) (verdict true)
    ∷ row folded any (pos 0) (verdict true)
    ∷ row empty some (pos 0) (verdict false)
    ∷ row empty none (pos 0) (verdict true)
    -- the first and the last offset, and those beyond
    ∷ row empty any (pos 50400) (verdict true)
    ∷ row empty any (pos 50401) (refusal 1 0)
    ∷ row empty any (negsuc 50399) (verdict true)
    ∷ row empty any (negsuc 50400) (refusal 1 0)
    -- 1 goes before 4, and 4 before 7
    ∷ row empty bad (pos 50401) (refusal 1 0)
    ∷ row [] bad (pos 0) (refusal 4 0)
    -- a line without CR LF, and no line
    ∷ row (ascii "BEGIN:VCALENDAR") any (pos 0) (refusal 6 1)
    ∷ row [] any (pos 0) (refusal 7 1)
    -- an event: good, with an unsupported line, with a bad value, with no start
    ∷ row (event "DTSTART:20240311T080000Z") some (pos 0) (verdict true)
    ∷ row (event "DTSTART:20240311T080000Z") none (pos 0) (verdict false)
    ∷ row (event "RDATE:20240311T080000Z") any (pos 0) (refusal 8 3)
    ∷ row (event "DTSTART:20010229T000000Z") any (pos 0) (refusal 9 3)
    ∷ row (event "SUMMARY:late shift") any (pos 0) (refusal 10 2)
    ∷ []

pub edges : AllHold table
unfolding match_outcome unless_refused first_refusal match_rows early_match_rows offset_row offset_good size_rows query_rows query_good sections_good sections_of behind_records count_fits byte_at place_within behind_text_section behind_texts behind_text records_good ranges_good every_below components_good component_good name_good component_at is_name text_of text_from text_place is_name_byte is_letter parent_good same_name upper properties_good parameters_good misplaced_in range_misplaced components_misplaced some_below component_misplaced properties_misplaced calendar_rows structure_rows contents_rows line_row line_check line_check_from cut unfolded is_fold is_break is_blank is_well_formed scan is_ending step is_digit is_control nesting_of outcome walk file_lines content_lines delimiter_of line_of name_of before first_outside head_of parameter_texts split_parts value_of after after_end after_begin is_calendar unsupported_row value_fault components_of components_in items_below tree_of items_of delimited_from bad_value_row rule_row rule_fault verdict_of verdict_by query_holds component_test component_holds some_component tree_in range_holds properties_hold children_hold has_child_component has_property some_component_named after_property may_begin fault_in properties_in fault_or property_value_of before_items items_good with_items value_as property_of component_scope scope_of is_event unless_zoned has_parameter parameters_named time_fact time_in time_of read_time form_of has_twice has_list some_list time_by read_date_time clock_at clock_of date_at three year_at joined pair_at digit_pair checked_day is_day month_days length_in month_lengths time_at checked_time utc_of at_second utc_second since epoch day_number days_before_year ending_by repeat_by event_made event_with event_from event_by no_properties with_property with_span with_busy with_properties property_values_in event_of vevents_as vevents vevent_of breaks_rule first_fault broken_or is_leap year_days before_in days_before_month some_of is_empty two_or_more has_rule other_kind override_breaks event_breaks breaks_alone masters_clash overrides_clash misnames misplaced override_misplaced breaks_beside breaks is_master is_override has_uid shares_uid master_of uids_by recurrence_ids_by exceptions_by uids_in recurrence_ids_in exceptions_in identity_in identity_of
edges = (refl, (refl, (refl, (refl, (refl, (refl, (refl, (refl, (refl, (refl, (refl, (refl, (refl, (refl, (refl, (refl, (refl, tt)))))))))))))))))
