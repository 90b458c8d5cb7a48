-- The table of examples holds: each claim has a test that computes, and the test is sound.
use Prim.Native.Nat.{ℕ, ◌+◌}
use mathlib.Core.Path.{◌≡◌, refl, ap, ◌∙◌}
use mathlib.Core.Bool.{Bool, true, false, not, ◌&&◌}
use mathlib.Core.List.{List, [], ◌∷◌}
use native.Mathlib.Omega.{arith}
use lib.Dec.{eqb, ltb}
use borrow.Author.Tests.{eqb-true, ltb-true, not-true}
use Rattle.ascii.specs.Bytes.{is_digit, is_letter, is_name_byte, is_control, upper}
use Rattle.ascii.specs.Names.{same_name, is_name}
use Rattle.ascii.proofs.Bools.{and_left, and_right, clash}
use Rattle.text.specs.Unfolding.{is_break, is_blank, is_fold, unfolded}
use Rattle.text.specs.Lines.{cut, content_lines}
use Rattle.time.specs.DateTime.{digit_pair, pair_at, joined, year_at, checked_day, three, date_at, checked_time, time_at, clock_of, clock_at, read_date_time}
use Rattle.time.specs.Days.{is_leap, year_days, days_before_year, month_lengths, length_in, before_in, month_days, days_before_month, day_number, is_day}
use Rattle.time.specs.Duration.{time_start, next_stage, weight_of, blank, with_digit, fitting, unit_to, with_unit, step, runs as text_runs, finish, duration_text, duration_seconds, within_limit, limited, read_duration}
use Rattle.time.specs.Limits.{epoch, since, utc_second}
use Rattle.time.specs.Grammar.{decimal}
use Rattle.time.specs.declared.date_time.Kind.{Kind}
use Rattle.line.specs.Scanner.{step as scan_step, is_ending, scan, is_well_formed}
use Rattle.line.specs.WellFormed.{line_check_from, line_check}
use Rattle.line.specs.Splitting.{first_outside, before, after, split_parts, plain_split}
use Rattle.line.specs.Reading.{head_of, value_of, name_of, parameter_texts, line_of, parameters_named, some_list, values_named, pooled, has_parameter, has_twice, has_list, first_value}
use Rattle.delimiters.specs.Delimiters.{delimiter_of}
use Rattle.delimiters.specs.Innermost.{is_calendar, is_event, is_free_busy, may_begin}
use Rattle.periods.specs.Periods.{period, second_in, covers}
use Rattle.periods.specs.BusyTypes.{BusyPeriod, report_place, same_busy}
use Rattle.periods.specs.declared.Period.{Period}
use Rattle.periods.specs.declared.BusyType.{BusyType}
use Rattle.values.specs.Period.{utc_by, utc_at, end_by as period_end, period_to, period_from, period_of, period_items, all_periods, good_periods}
use Rattle.values.specs.Rule.{number_to, frequency_part, interval_by as interval_part, count_by, named_part, part_of, no_parts, with_part, with_parts, rule_by, rule_of}
use Rattle.values.specs.Times.{utc_of, at_second, time_by, read_time, form_of, time_of, utc_only}
use Rattle.property.specs.Properties.{property_of, time_in, time_fact, unless_zoned, duration_by, rule_value, busy_named, busy_of, type_value, value_as, property_value_of, before_items, items_good, with_items}
use Rattle.nesting.specs.Nesting.{after_begin, after_end, after_property, walk, outcome, nesting_of}
use Rattle.nesting.specs.Components.{delimited_from, items_of, tree_of, components_in, properties_in, items_below}
use Rattle.table.specs.Runs.{lead, lead_if, runs}
use Rattle.events.specs.ComponentProperties.{no_properties, with_property, with_span, with_busy, with_properties}
use Rattle.events.specs.Events.{Entry, event, block, kind_number, same_kind, is_date, stated_end, stated_duration, ending_by, limit_by, repeat_by, days_by, interval_by, busy_by_status, busy_by, event_made, event_with as event_ending, event_from, event_by, block_between, block_from, block_by}
use Rattle.events.specs.declared.Event.{Event}
use Rattle.events.specs.declared.Block.{Block}
use Rattle.overrides.specs.Lists.{some, is_empty, two_or_more}
use Rattle.overrides.specs.Rules.{has_rule, other_kind, override_breaks, event_breaks, breaks_alone, masters_clash, overrides_clash, misnames, misplaced, override_misplaced, breaks_beside, breaks, first_broken, broken_line}
use Rattle.overrides.specs.VEvents.{is_master, is_override, has_uid, shares_uid, master_of}
use Rattle.calendar.specs.Identities.{uids_by, recurrence_ids_by, exceptions_by, uids_in, recurrence_ids_in, exceptions_in, identity_in, identity_of}
use Rattle.calendar.specs.Meaning.{removed_as, fault_of, structure_fault}
use Rattle.property.specs.Properties.{exceptions_by as exceptions_by', unless_ranged, status_named, gives_periods}
use Rattle.values.specs.TimeLists.{time_items, all_times, good_times, seconds_of, kind_number as kind_number', same_kind as same_kind', with_kind, with_kinds}
use Rattle.overrides.specs.Instances.{number_at, names_instance, moved_from, removed_from as removed_from'}
use Rattle.calendar.specs.Meaning.{Meaning, fault, calendar, scope_of, component_scope, property_values_in, fault_or, fault_in, value_fault, event_of, block_of, vevents_as, vevents, vevent_of, breaks_rule, broken_or, first_fault, rule_fault, periods_by, block_periods, removed_from, entry_of, entries_among, entries_of, file_lines, components_of, by_rules, by_values, by_lines, contents_of, meaning_of}
use Rattle.recurrence.specs.Candidates.{first_at, span_of, candidate_of, starts_before}
use Rattle.seconds.specs.Seconds.{among}
use Rattle.recurrence.specs.Instances.{utc_clock_of, clock_among, step_of, start_of, repeats, is_instance, occurs, default_length, length_by, is_zero_length, end_of}
use Rattle.recurrence.specs.TimeRange.{EventIn, Decides, overlaps, ends_after, instance_in, between_in, periods_overlap, bounds_in, block_in}
use Rattle.recurrence.proofs.Instances.{none_stands}
use Rattle.recurrence.proofs.Candidates.{before_candidate, none_after, search_finds, search_ends}
use Rattle.pieces.specs.BusyPeriods.{stated_periods, instance_periods, gathered, busy_periods}
use Rattle.pieces.specs.Covered.{of_type, covered_by, covered}
use Rattle.examples.specs.Examples.{seconds, refused, Claim, time, duration, range, block_range, no_piece, periods, last, calendar_bytes, meaning_with, event_with, block_with, starting_at, lasting, OneEvent, OneBlock, Entries, Last, Holds, All, table}
use Rattle.pieces.proofs.Pieces.{no_pieces}

-- ---- lists of periods

same_period : Period → Period → Bool
same_period p q = eqb p.start q.start && eqb p.end q.end

same_period_lem : (p q : Period) → same_period p q ≡ true → p ≡ q
unfolding same_period
same_period_lem p q h =
    ap (λ (i : ℕ). period i p.end) (eqb-true p.start q.start (and_left (eqb p.start q.start) _ h))
    ∙ ap (λ (i : ℕ). period q.start i) (eqb-true p.end q.end (and_right (eqb p.start q.start) _ h))

same_periods : List Period → List Period → Bool
same_periods [] [] = true
same_periods [] (q ∷ qs) = false
same_periods (p ∷ ps) [] = false
same_periods (p ∷ ps) (q ∷ qs) = same_period p q && same_periods ps qs

same_periods_holds : (ps qs : List Period) → same_periods ps qs ≡ true → ps ≡ qs
unfolding same_periods
same_periods_holds [] [] h = refl
same_periods_holds [] (q ∷ qs) h = clash h refl
same_periods_holds (p ∷ ps) [] h = clash h refl
same_periods_holds (p ∷ ps) (q ∷ qs) h =
    ap (λ (x : Period). x ∷ ps) (same_period_lem p q (and_left (same_period p q) _ h))
    ∙ ap (λ (l : List Period). q ∷ l) (same_periods_holds ps qs (and_right (same_period p q) _ h))

-- ---- the last instance

last_by : (e : Event) (k s : ℕ) → (occurs e [] k && (eqb (start_of e k) (utc_clock_of s) && not (is_instance e (k + 1)))) ≡ true → Last e k s
last_by e k s h =
    let m = and_right (occurs e [] k) _ h in
    record {
      there = and_left (occurs e [] k) _ h;
      starts = eqb-true _ (utc_clock_of s) (and_left (eqb (start_of e k) (utc_clock_of s)) _ m);
      none_later = λ j p. none_stands e [] (k + 1) (not-true _ (and_right (eqb (start_of e k) (utc_clock_of s)) _ m)) j (omega arith);
    }

-- ---- what a calendar means

-- the test holds of its one event
of_event : Meaning → (Event → Bool) → Bool
of_event (fault n i) f = false
of_event (calendar []) f = false
of_event (calendar (event e [] ∷ [])) f = f e
of_event (calendar (event e (g ∷ gs) ∷ [])) f = false
of_event (calendar (event e gone ∷ x ∷ xs)) f = false
of_event (calendar (block k ps ∷ xs)) f = false

of_event_lem : (m : Meaning) (f : Event → Bool) (P : Event → Type 0) → ((e : Event) → f e ≡ true → P e) → of_event m f ≡ true → OneEvent m P
unfolding of_event
of_event_lem (fault n i) f P g h = clash h refl
of_event_lem (calendar []) f P g h = clash h refl
of_event_lem (calendar (event e [] ∷ [])) f P g h = record { given = e; means = refl; so = g e h }
of_event_lem (calendar (event e (y ∷ ys) ∷ [])) f P g h = clash h refl
of_event_lem (calendar (event e gone ∷ x ∷ xs)) f P g h = clash h refl
of_event_lem (calendar (block k ps ∷ xs)) f P g h = clash h refl

-- the test holds of its one block
of_block : Meaning → (Block → List BusyPeriod → Bool) → Bool
of_block (fault n i) f = false
of_block (calendar []) f = false
of_block (calendar (event e gone ∷ xs)) f = false
of_block (calendar (block k ps ∷ [])) f = f k ps
of_block (calendar (block k ps ∷ x ∷ xs)) f = false

of_block_holds : (m : Meaning) (f : Block → List BusyPeriod → Bool) (P : Block → List BusyPeriod → Type 0)
    → ((k : Block) (ps : List BusyPeriod) → f k ps ≡ true → P k ps) → of_block m f ≡ true → OneBlock m P
unfolding of_block
of_block_holds (fault n i) f P g h = clash h refl
of_block_holds (calendar []) f P g h = clash h refl
of_block_holds (calendar (event e gone ∷ xs)) f P g h = clash h refl
of_block_holds (calendar (block k ps ∷ [])) f P g h = record { given = k; listed = ps; means = refl; so = g k ps h }
of_block_holds (calendar (block k ps ∷ x ∷ xs)) f P g h = clash h refl

-- the test holds of its entries
of_entries : Meaning → (List Entry → Bool) → Bool
of_entries (fault n i) f = false
of_entries (calendar es) f = f es

of_entries_lem : (m : Meaning) (f : List Entry → Bool) (P : List Entry → Type 0) → ((es : List Entry) → f es ≡ true → P es) → of_entries m f ≡ true → Entries m P
unfolding of_entries
of_entries_lem (fault n i) f P g h = clash h refl
of_entries_lem (calendar es) f P g h = record { given = es; means = refl; so = g es h }

-- a refusal and its line
is_fault : ℕ → ℕ → Meaning → Bool
is_fault r i (fault n k) = eqb n r && eqb k i
is_fault r i (calendar es) = false

is_fault_lem : (r i : ℕ) (m : Meaning) → is_fault r i m ≡ true → m ≡ fault r i
unfolding is_fault
is_fault_lem r i (fault n k) h =
    ap (λ (j : ℕ). fault j k) (eqb-true n r (and_left (eqb n r) _ h)) ∙ ap (λ (j : ℕ). fault r j) (eqb-true k i (and_right (eqb n r) _ h))
is_fault_lem r i (calendar es) h = clash h refl

-- ---- events

is_utc : Kind → Bool
is_utc Kind.Utc = true
is_utc Kind.Floating = false
is_utc Kind.Date = false

utc : (k : Kind) → is_utc k ≡ true → k ≡ Kind.Utc
unfolding is_utc
utc Kind.Utc h = refl
utc Kind.Floating h = clash h refl
utc Kind.Date h = clash h refl

starts_at : ℕ → Event → Bool
starts_at n e = is_utc e.kind && eqb e.start n

starts_at_lem : (n : ℕ) (e : Event) → starts_at n e ≡ true → (e.kind ≡ Kind.Utc) × (e.start ≡ n)
unfolding starts_at
starts_at_lem n e h = (utc e.kind (and_left (is_utc e.kind) _ h), eqb-true e.start n (and_right (is_utc e.kind) _ h))

has_length : ℕ → Event → Bool
has_length n e = eqb (length_by e e.ending) n

has_length_lem : (n : ℕ) (e : Event) → has_length n e ≡ true → length_by e e.ending ≡ n
unfolding has_length
has_length_lem n e h = eqb-true _ n h

in_range : ℕ → ℕ → Bool → Event → Bool
in_range a b true e = instance_in e [] a b (candidate_of e a)
in_range a b false e = not (starts_before e b (candidate_of e a)) && ltb 0 (step_of e)

in_range_holds : (a b : ℕ) (t : Bool) (e : Event) → in_range a b t e ≡ true → Decides t (EventIn e [] a b)
unfolding in_range
in_range_holds a b true e h = search_finds _ h
in_range_holds a b false e h =
    let some_step = ltb-true 0 (step_of e) (and_right (not (starts_before e b (candidate_of e a))) _ h) in
    search_ends _ (before_candidate e a some_step [] b) (none_after e b _ (not-true _ (and_left _ (ltb 0 (step_of e)) h)) [] a)

is_last : ℕ → ℕ → Event → Bool
is_last k s e = occurs e [] k && (eqb (start_of e k) (utc_clock_of s) && not (is_instance e (k + 1)))

is_last_lem : (k s : ℕ) (e : Event) → is_last k s e ≡ true → Last e k s
unfolding is_last
is_last_lem k s e h = last_by e k s h

-- ---- blocks

in_block : ℕ → ℕ → Bool → Block → List BusyPeriod → Bool
in_block a b true k ps = block_in k ps a b
in_block a b false k ps = not (block_in k ps a b)

in_block_lem : (a b : ℕ) (t : Bool) (k : Block) (ps : List BusyPeriod) → in_block a b t k ps ≡ true → block_in k ps a b ≡ t
unfolding in_block
in_block_lem a b true k ps h = h
in_block_lem a b false k ps h = not-true _ h

has_periods : ℕ → List Period → List Entry → Bool
has_periods n qs es = same_periods (runs (covered BusyType.Busy es) 0 n) qs

has_periods_lem : (n : ℕ) (qs : List Period) (es : List Entry) → has_periods n qs es ≡ true → runs (covered BusyType.Busy es) 0 n ≡ qs
unfolding has_periods
has_periods_lem n qs es h = same_periods_holds _ qs h

-- ---- the table

test : Claim → Bool
test (time s (seconds n)) = of_event (starting_at s) (starts_at n)
test (time s (refused r)) = is_fault r 3 (starting_at s)
test (duration s (seconds n)) = of_event (lasting s) (has_length n)
test (duration s (refused r)) = is_fault r 4 (lasting s)
test (range ls a b t) = of_event (event_with ls) (in_range a b t)
test (block_range ls a b t) = of_block (block_with ls) (in_block a b t)
test (no_piece ls a b) = of_event (event_with ls) is_zero_length
test (periods ls n qs) = of_entries (block_with ls) (has_periods n qs)
test (last ls k s) = of_event (event_with ls) (is_last k s)

sound : (c : Claim) → test c ≡ true → Holds c
unfolding test
sound (time s (seconds n)) h = of_event_lem _ (starts_at n) _ (starts_at_lem n) h
sound (time s (refused r)) h = is_fault_lem r 3 _ h
sound (duration s (seconds n)) h = of_event_lem _ (has_length n) _ (has_length_lem n) h
sound (duration s (refused r)) h = is_fault_lem r 4 _ h
sound (range ls a b t) h = of_event_lem _ (in_range a b t) _ (in_range_holds a b t) h
sound (block_range ls a b t) h = of_block_holds _ (in_block a b t) _ (in_block_lem a b t) h
sound (no_piece ls a b) h = of_event_lem _ is_zero_length _ (λ e. no_pieces a b e []) h
sound (periods ls n qs) h = of_entries_lem _ (has_periods n qs) _ (has_periods_lem n qs) h
sound (last ls k s) h = of_event_lem _ (is_last k s) _ (is_last_lem k s) h

tests : List Claim → Bool
tests [] = true
tests (c ∷ cs) = test c && tests cs

all_hold : (cs : List Claim) → tests cs ≡ true → All cs
unfolding tests
all_hold [] h = tt
all_hold (c ∷ cs) h = (sound c (and_left (test c) (tests cs) h), all_hold cs (and_right (test c) (tests cs) h))

-- document 01, Examples at the edges, and R-2: every row holds
pub edges : All table
unfolding table calendar_bytes meaning_with event_with block_with starting_at lasting is_fault starts_at has_length of_event of_block of_entries in_range in_block is_last has_periods tests test is_utc same_period same_periods is_digit upper same_name first_outside before after split_parts head_of value_of name_of parameter_texts line_of parameters_named some_list has_parameter has_twice has_list digit_pair pair_at joined year_at checked_day three date_at checked_time time_at clock_of clock_at read_date_time is_leap year_days days_before_year month_lengths length_in before_in month_days days_before_month day_number is_day time_start next_stage weight_of blank with_digit fitting unit_to with_unit step text_runs finish duration_text duration_seconds within_limit limited read_duration epoch since utc_second property_of time_in time_fact unless_zoned duration_by value_as property_value_of before_items items_good with_items utc_of at_second time_by read_time form_of time_of utc_only report_place same_busy fault_or by_values second_in covers lead lead_if runs first_at span_of starts_before step_of start_of repeats among clock_among is_instance occurs default_length length_by is_zero_length end_of ends_after instance_in overlaps between_in periods_overlap bounds_in block_in stated_periods instance_periods gathered busy_periods of_type covered_by covered is_letter is_name_byte is_control is_name is_break is_blank is_fold unfolded cut content_lines scan_step is_ending scan is_well_formed line_check_from line_check plain_split values_named first_value delimiter_of is_calendar is_event is_free_busy may_begin after_begin after_end after_property walk outcome nesting_of delimited_from items_of tree_of components_in properties_in items_below scope_of component_scope property_values_in fault_in value_fault event_of block_of vevents_as vevents vevent_of breaks_rule broken_or first_fault rule_fault periods_by block_periods removed_from entry_of entries_among entries_of file_lines components_of by_rules by_lines contents_of meaning_of no_properties with_property with_span with_busy with_properties kind_number same_kind is_date stated_end stated_duration ending_by limit_by repeat_by days_by interval_by busy_by_status busy_by event_made event_ending event_from event_by block_between block_from block_by rule_value busy_named busy_of type_value utc_by utc_at period_end period_to period_from period_of period_items all_periods good_periods number_to frequency_part interval_part count_by named_part part_of no_parts with_part with_parts rule_by rule_of decimal pooled has_rule other_kind override_breaks event_breaks breaks_alone masters_clash overrides_clash misnames misplaced override_misplaced breaks_beside breaks first_broken broken_line is_master is_override has_uid shares_uid master_of uids_by recurrence_ids_by exceptions_by uids_in recurrence_ids_in exceptions_in identity_in identity_of removed_as fault_of structure_fault exceptions_by' unless_ranged status_named gives_periods time_items all_times good_times seconds_of kind_number' same_kind' with_kind with_kinds number_at names_instance moved_from removed_from' some is_empty two_or_more
edges = all_hold table refl
