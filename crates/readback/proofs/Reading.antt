-- A report's bytes, read as a calendar, are one block with exactly the periods that they were written from:
-- what each line of the block says, the periods of a busy type, and the theorem.
use Rattle.std.specs.Prelude.{None, Ok, Option, Result, Some}
use Prim.Native.Nat.{ℕ, suc, ◌+◌, ◌≤◌, ◌<◌}
use Rattle.calendar.specs.declared.LineError.{LineError}
use mathlib.Core.Path.{◌≡◌, refl, ap, ◌∙◌}
use mathlib.Core.Bool.{cond, Bool, true, false}
use mathlib.Core.List.{List, [], ◌∷◌, ◌++◌, map, append-nil}
use native.Mathlib.Omega.{arith}
use Rattle.ascii.specs.Bytes.{upper}
use Rattle.ascii.specs.Names.{same_name}
use Rattle.ascii.specs.Words.{ascii}
use Rattle.ascii.proofs.Bools.{clash}
use Rattle.time.specs.Writing.{utc_text}
use Rattle.time.specs.Limits.{epoch, last_second}
use Rattle.time.specs.declared.date_time.Kind.{Kind}
use Rattle.time.proofs.WritingLaws.{read_written}
use Rattle.time.proofs.LimitsLaws.{second_written}
use Rattle.periods.specs.declared.Period.{Period}
use Rattle.periods.specs.declared.BusyType.{BusyType}
use Rattle.periods.specs.BusyTypes.{BusyPeriod, typed, report_place, is_busy, same_busy}
use Rattle.line.specs.Reading.{parameters_named, some_list, pooled, values_named, has_parameter, has_twice, has_list, first_value}
use Rattle.delimiters.specs.Innermost.{is_event, is_free_busy}
use Rattle.values.specs.Period.{period_items, all_periods, good_periods}
use Rattle.values.specs.Times.{utc_of, at_second, time_by, read_time, form_of, time_of, utc_only}
use Rattle.values.specs.declared.times.Context.{Context}
use Rattle.values.specs.declared.times.Time.{Time}
use Rattle.values.proofs.PeriodLaws.{period_items_written}
use Rattle.property.specs.Properties.{property_of, time_in, time_fact, unless_zoned, busy_named, busy_of, type_value, value_as, property_value_of, before_items, items_good, with_items}
use Rattle.property.specs.declared.Scope.{Scope}
use Rattle.property.specs.Facts.{Reading, unread, fault, of, bad, span, periods, start, end}
use Rattle.nesting.specs.WellNested.{numbered_from}
use Rattle.nesting.specs.Components.{properties_in}
use Rattle.report.specs.Bytes.{Report, period_text, GoodPeriods, Writable, report_bytes}
use Rattle.report.specs.Bytes as Report
use Rattle.events.specs.ComponentProperties.{with_property, with_span, with_busy, with_properties, no_properties}
use Rattle.events.specs.declared.ComponentProperties.{ComponentProperties}
use Rattle.events.specs.Events.{block_from, block_by, block}
use Rattle.events.specs.declared.Block.{Block}
use Rattle.events.proofs.ComponentRules.{later_between}
use Rattle.calendar.specs.Meaning.{property_values_in, fault_or, fault_in, periods_by, block_periods, scope_of, component_scope, value_fault, block_of, breaks_rule, broken_or, first_fault, rule_fault, entry_of, entries_among, entries_of, components_of, calendar, meaning_of}
use Rattle.calendar.proofs.Meaning.{not_refused}
use Rattle.pieces.specs.Covered.{of_type}
use Rattle.pieces.proofs.Covered.{of_type_append}
use Rattle.readback.specs.Reading.{report_periods, report_meaning}
use Rattle.readback.proofs.ReadingLines.{type_word, plain_line, period_line, block_content, report_lines_good}
use Rattle.readback.proofs.ReadingNested.{block_component, flat_properties, report_nested, report_components}

-- ---- the times

-- a second of a UTC value
abbrev pub utc_time : ℕ → Time
utc_time t = record { kind = Kind.Utc; clock = t + epoch; second = t }

-- a written time with no parameter reads as its second, whatever the name of its line
time_read : (c : Context) (n : List ℕ) (t : ℕ) → t ≤ last_second → time_of c (plain_line n (utc_text t)) ≡ Some (utc_time t)
unfolding time_of form_of has_twice has_list has_parameter parameters_named some_list read_time time_by utc_of at_second
time_read c n t h = rw (read_written t h, second_written t c.shift h)

pub stamp_value : (c : Context) (v : List ℕ) → property_value_of c Scope.FreeBusy (plain_line (ascii "DTSTAMP") v) ≡ unread
unfolding property_value_of before_items with_items items_good property_of value_as same_name upper
stamp_value c v = refl

pub start_value : (c : Context) (t : ℕ) → t ≤ last_second
    → property_value_of c Scope.FreeBusy (plain_line (ascii "DTSTART") (utc_text t)) ≡ of (span (start (utc_time t)))
unfolding property_value_of before_items with_items items_good property_of value_as same_name upper unless_zoned has_parameter parameters_named time_in utc_only time_fact
start_value c t h = ap (λ (r : Option Time). with_items c (utc_text t) (time_fact (λ x. span (start x)) (utc_only r))) (time_read c (ascii "DTSTART") t h)

pub end_value : (c : Context) (t : ℕ) → t ≤ last_second
    → property_value_of c Scope.FreeBusy (plain_line (ascii "DTEND") (utc_text t)) ≡ of (span (end (utc_time t)))
unfolding property_value_of before_items with_items items_good property_of value_as same_name upper unless_zoned has_parameter parameters_named time_in utc_only time_fact
end_value c t h = ap (λ (r : Option Time). with_items c (utc_text t) (time_fact (λ x. span (end x)) (utc_only r))) (time_read c (ascii "DTEND") t h)

-- ---- a period

-- has a second at least, and ends within the limits
pub record GoodTyped (t : BusyPeriod) : Type 0 where
  pub rising : t.period.start < t.period.end
  pub within_limits : t.period.end ≤ last_second

pub data AllGood : List BusyPeriod → Type 0 where
  no_period : AllGood []
  one_good : {t : BusyPeriod} {ts : List BusyPeriod} → GoodTyped t → AllGood ts → AllGood (t ∷ ts)

type_read : (b : BusyType) → busy_named (type_word b) ≡ b
unfolding busy_named type_word same_name upper
type_read BusyType.Free = refl
type_read BusyType.Busy = refl
type_read BusyType.Tentative = refl
type_read BusyType.Unavailable = refl

busy_read : (t : BusyPeriod) → busy_of (period_line t) ≡ t.busy
unfolding busy_of first_value values_named parameters_named pooled period_line same_name upper
busy_read t = type_read t.busy

value_read : {t : BusyPeriod} → GoodTyped t → period_items (period_line t).value ≡ Some t.period ∷ []
unfolding period_line period_text
value_read {t} g = period_items_written t.period.start t.period.end g.rising g.within_limits

period_value : (c : Context) {t : BusyPeriod} → GoodTyped t → property_value_of c Scope.FreeBusy (period_line t) ≡ of (periods t.busy)
unfolding property_value_of before_items with_items items_good property_of value_as type_value period_line has_twice has_list parameters_named some_list same_name upper all_periods
period_value c {t} g =
    ap (λ (ps : List (Option Period)). cond (all_periods ps) (of (periods (busy_of (period_line t)))) (fault bad)) (value_read g)
    ∙ ap (λ (y : BusyType). of (periods y)) (busy_read t)

period_given : (c : Context) {t : BusyPeriod} → GoodTyped t → periods_by (property_value_of c Scope.FreeBusy (period_line t)) (period_line t) ≡ t ∷ []
unfolding periods_by good_periods
period_given c {t} g =
    ap (λ (s : Reading). periods_by s (period_line t)) (period_value c g) ∙ ap (λ (ps : List (Option Period)). typed t.busy (good_periods ps)) (value_read g)

-- ---- any number of periods: no fault, no property that counts, and each of them given

module _ (c : Context) where
  pub periods_faultless : (i : ℕ) (v : Result (Unit {0}) LineError) {ts : List BusyPeriod} → AllGood ts
      → fault_in c Scope.FreeBusy (numbered_from i (map period_line ts)) v ≡ v
  unfolding fault_in numbered_from fault_or
  periods_faultless i v no_period = refl
  periods_faultless i v (one_good {t} {ts} g gs) =
      ap (λ (s : Reading). fault_or i s (fault_in c Scope.FreeBusy (numbered_from (suc i) (map period_line ts)) v)) (period_value c g)
      ∙ periods_faultless (suc i) v gs

  pub periods_add_nothing : (i : ℕ) (a : ComponentProperties) {ts : List BusyPeriod} → AllGood ts
      → with_properties a (property_values_in c Scope.FreeBusy (numbered_from i (map period_line ts))) ≡ a
  unfolding property_values_in numbered_from with_properties with_property with_span with_busy
  periods_add_nothing i a no_period = refl
  periods_add_nothing i a (one_good {t} {ts} g gs) =
      ap (λ (s : Reading). with_properties (with_property a s) (property_values_in c Scope.FreeBusy (numbered_from (suc i) (map period_line ts)))) (period_value c g)
      ∙ periods_add_nothing (suc i) a gs

  pub periods_given : (i : ℕ) {ts : List BusyPeriod} → AllGood ts → block_periods c (numbered_from i (map period_line ts)) ≡ ts
  unfolding block_periods numbered_from
  periods_given i no_period = refl
  periods_given i (one_good {t} {ts} g gs) =
      ap (λ (l : List BusyPeriod). l ++ block_periods c (numbered_from (suc i) (map period_line ts))) (period_given c g)
      ∙ ap (λ (l : List BusyPeriod). t ∷ l) (periods_given (suc i) gs)

-- ---- those of a report that can be written

typed_good : (b : BusyType) {ps : List Period} → GoodPeriods ps → AllGood (typed b ps)
typed_good b Report.none = no_period
typed_good b (Report.then h k g) = one_good (record { rising = h; within_limits = k }) (typed_good b g)

good_append : {ts us : List BusyPeriod} → AllGood ts → AllGood us → AllGood (ts ++ us)
good_append no_period k = k
good_append (one_good g h) k = one_good g (good_append h k)

pub periods_good : {r : Report} → Writable r → AllGood (report_periods r)
unfolding report_periods
periods_good w =
    good_append (typed_good BusyType.Busy (w.periods_good BusyType.Busy))
    (good_append (typed_good BusyType.Tentative (w.periods_good BusyType.Tentative)) (typed_good BusyType.Unavailable (w.periods_good BusyType.Unavailable)))

-- ---- the periods of a busy type are those that the report was written with

-- all of a list of one type, or none
type_typed : (a b : BusyType) (s : Bool) → same_busy b a ≡ s → (ps : List Period) → of_type b (typed a ps) ≡ cond s ps []
unfolding of_type
type_typed a b true e [] = refl
type_typed a b false e [] = refl
type_typed a b true e (p ∷ ps) = rw (of_type, e) (ap (λ (l : List Period). p ∷ l) (type_typed a b true e ps))
type_typed a b false e (p ∷ ps) = rw (of_type, e) (type_typed a b false e ps)

-- each list of the report is asked for its part
report_parts : (r : Report) (b : BusyType)
    → of_type b (report_periods r)
    ≡ cond (same_busy b BusyType.Busy) (r.periods BusyType.Busy) []
    ++ (cond (same_busy b BusyType.Tentative) (r.periods BusyType.Tentative) []
    ++ cond (same_busy b BusyType.Unavailable) (r.periods BusyType.Unavailable) [])
unfolding report_periods
report_parts r b =
    let f : BusyType → List BusyPeriod = λ a. typed a (r.periods a) in
    let part : (a : BusyType) → of_type b (f a) ≡ cond (same_busy b a) (r.periods a) [] = λ a. type_typed a b (same_busy b a) refl (r.periods a) in
    of_type_append b (f BusyType.Busy) (f BusyType.Tentative ++ f BusyType.Unavailable)
    ∙ ap (λ (l : List Period). of_type b (f BusyType.Busy) ++ l) (of_type_append b (f BusyType.Tentative) (f BusyType.Unavailable))
    ∙ rw (part BusyType.Busy, part BusyType.Tentative, part BusyType.Unavailable) refl

pub report_types : (r : Report) (b : BusyType) → is_busy b ≡ true → of_type b (report_periods r) ≡ r.periods b
unfolding is_busy same_busy report_place
report_types r BusyType.Free h = clash h refl
report_types r BusyType.Busy h = report_parts r BusyType.Busy ∙ append-nil (r.periods BusyType.Busy)
report_types r BusyType.Tentative h = report_parts r BusyType.Tentative ∙ append-nil (r.periods BusyType.Tentative)
report_types r BusyType.Unavailable h = report_parts r BusyType.Unavailable

-- ---- the one component

-- it is a VFREEBUSY
block_scope : (r : Report) → component_scope (block_component r) ≡ Scope.FreeBusy
unfolding component_scope block_component scope_of is_event is_free_busy same_name upper
block_scope r = refl

-- whose properties are its lines
block_properties : (r : Report) → properties_in (block_component r).items ≡ numbered_from 5 (block_content r)
unfolding block_component
block_properties r = flat_properties 5 (block_content r)

-- the range it stands over
abbrev pub report_block : Report → Block
report_block r = record { start = Some r.start; end = Some r.end }

module _ (c : Context) {r : Report} (w : Writable r) where
  start_limit : r.start ≤ last_second
  start_limit = omega (arith, w.start_first, w.end_limit)

  end_limit : r.end ≤ last_second
  end_limit = w.end_limit

  lines_faultless : fault_in c Scope.FreeBusy (numbered_from 5 (block_content r)) (Ok tt) ≡ Ok tt
  unfolding block_content numbered_from fault_in fault_or
  lines_faultless =
      rw (stamp_value c, start_value c r.start start_limit, end_value c r.end end_limit) (periods_faultless c 8 (Ok tt) (periods_good w))

  lines_block : block_by (with_properties no_properties (property_values_in c Scope.FreeBusy (numbered_from 5 (block_content r)))) ≡ Some (report_block r)
  unfolding block_content numbered_from property_values_in with_properties with_property with_span with_busy no_properties block_by block_from
  lines_block =
      rw (stamp_value c, start_value c r.start start_limit, end_value c r.end end_limit, periods_add_nothing c 8 _ (periods_good w))
      (later_between r.start r.end w.start_first)

  lines_periods : block_periods c (numbered_from 5 (block_content r)) ≡ report_periods r
  unfolding block_content numbered_from block_periods periods_by
  lines_periods =
      rw (stamp_value c, start_value c r.start start_limit, end_value c r.end end_limit) (periods_given c 8 (periods_good w))

  -- ---- the component by what its lines say

  block_faultless : value_fault c (block_component r ∷ []) ≡ Ok tt
  unfolding value_fault
  block_faultless = rw (block_scope r, block_properties r) lines_faultless

  block_read : block_of c (block_component r) ≡ Some (report_block r)
  unfolding block_of
  block_read = rw (block_properties r) lines_block

  block_unbroken : rule_fault c (block_component r ∷ []) ≡ None
  unfolding rule_fault first_fault breaks_rule broken_or
  block_unbroken = rw (block_scope r, block_read)

  block_entries : entries_of c (block_component r ∷ []) ≡ block (report_block r) (report_periods r) ∷ []
  unfolding entries_of entries_among entry_of
  block_entries = rw (block_scope r, block_read, block_properties r, lines_periods)

  -- ---- the bytes

  -- no value is unsupported or bad
  pub report_values_good : value_fault c (components_of (report_bytes r)) ≡ Ok tt
  report_values_good = ap (value_fault c) (report_components r) ∙ block_faultless

  -- no component breaks a rule
  pub report_rules_good : rule_fault c (components_of (report_bytes r)) ≡ None
  report_rules_good = ap (rule_fault c) (report_components r) ∙ block_unbroken

  -- one block, with the periods in their order
  pub report_entries : entries_of c (components_of (report_bytes r)) ≡ block (report_block r) (report_periods r) ∷ []
  report_entries = ap (entries_of c) (report_components r) ∙ block_entries

  -- THE THEOREM
  pub report_means : meaning_of c (report_bytes r) ≡ report_meaning r
  unfolding report_meaning
  report_means = not_refused c (report_bytes r) (report_lines_good r) (report_nested r) report_values_good report_rules_good ∙ ap calendar report_entries
