-- The meaning of a calendar (document 01, refusals 6 to 10): the first fault with its place, or its events and blocks in file order.
use Rattle.std.specs.Prelude.{ℕ, Bool, true, false, cond, List, [], ◌∷◌, ◌++◌, map, Err, None, Ok, Option, Result, Some}
use Rattle.nesting.specs.declared.StructureError.{StructureError}
use Rattle.calendar.specs.declared.LineError.{LineError}
use Rattle.events.specs.declared.Event.{Event}
use Rattle.events.specs.declared.Block.{Block}
use Rattle.text.specs.Lines.{content_lines}
use Rattle.line.specs.Grammar.{ContentLine}
use Rattle.line.specs.Reading.{line_of}
use Rattle.line.specs.WellFormed.{line_check, LineCheck, all_good, bad_line}
use Rattle.delimiters.specs.Innermost.{is_event, is_free_busy}
use Rattle.values.specs.Period.{period_items, good_periods}
use Rattle.values.specs.declared.times.Context.{Context}
use Rattle.property.specs.Facts.{Reading, unread, of, unsupported, bad, span, repeats, busy, identity, periods}
use Rattle.property.specs.Properties.{property_value_of}
use Rattle.property.specs.declared.Scope.{Scope}
use Rattle.nesting.specs.Nesting.{nesting_of}
use Rattle.nesting.specs.Components.{Numbered, Component, tree_of, items_below, components_in, properties_in}
use Rattle.events.specs.ComponentProperties.{no_properties, with_properties}
use Rattle.periods.specs.BusyTypes.{BusyPeriod, typed}
use Rattle.events.specs.Events.{event_by, block_by, Entry, event, block}
use Rattle.overrides.specs.VEvents.{VEvent}
use Rattle.overrides.specs.Instances.{removed_from as starts_removed}
use Rattle.overrides.specs.Rules.{breaks}
use Rattle.calendar.specs.Identities.{identity_of}
use Rattle.calendar.specs.declared.Refusal.{Refusal}
use Rattle.calendar.specs.Refused.{refused_at}

-- what a component is, by its name
unfoldable pub scope_of : List ℕ → Scope
scope_of n = cond (is_event n) Scope.Event (cond (is_free_busy n) Scope.FreeBusy Scope.Other)

unfoldable pub component_scope : Component → Scope
component_scope k = scope_of k.begin.line.value

-- what each line directly in a component says, in order
unfoldable pub property_values_in : Context → Scope → List Numbered → List Reading
property_values_in c s [] = []
property_values_in c s (x ∷ xs) = property_value_of c s x.line ∷ property_values_in c s xs

-- ---- 8 and 9: the first line in file order with either

-- a line's own fault, else what the lines after it have
unfoldable pub fault_or : ℕ → Reading → Result (Unit {0}) LineError → Result (Unit {0}) LineError
fault_or n unread r = r
fault_or n (Reading.fault unsupported) r = Err (LineError.Unsupported n)
fault_or n (Reading.fault bad) r = Err (LineError.Bad n)
fault_or n (of f) r = r

-- the lines of one component, and then what is to follow
unfoldable pub fault_in : Context → Scope → List Numbered → Result (Unit {0}) LineError → Result (Unit {0}) LineError
fault_in c s [] r = r
fault_in c s (x ∷ xs) r = fault_or x.number (property_value_of c s x.line) (fault_in c s xs r)

unfoldable pub value_fault : Context → List Component → Result (Unit {0}) LineError
value_fault c [] = Ok tt
value_fault c (k ∷ ks) = fault_in c (component_scope k) (properties_in k.items) (value_fault c ks)

-- ---- events, blocks, and the VEVENTs of a calendar

unfoldable pub event_of : Context → Component → Option Event
event_of c k = event_by (with_properties no_properties (property_values_in c Scope.Event (properties_in k.items)))

unfoldable pub block_of : Context → Component → Option Block
block_of c k = block_by (with_properties no_properties (property_values_in c Scope.FreeBusy (properties_in k.items)))

-- a VEVENT: its event, and what ties it to others
unfoldable pub vevent_of : Context → Component → VEvent
vevent_of c k =
    record {
      begin = k.begin.number;
      uids = (identity_of c k).uids;
      recurrence_ids = (identity_of c k).recurrence_ids;
      exceptions = (identity_of c k).exceptions;
      event = event_of c k;
    }

-- that of a component, if it is one
unfoldable pub vevents_as : Context → Scope → Component → List VEvent
vevents_as c Scope.Event k = vevent_of c k ∷ []
vevents_as c Scope.FreeBusy k = []
vevents_as c Scope.Other k = []

-- those of some components, in file order
unfoldable pub vevents : Context → List Component → List VEvent
vevents c [] = []
vevents c (k ∷ ks) = vevents_as c (component_scope k) k ++ vevents c ks

-- ---- 10: the first component in file order that breaks a rule

abbrev pub block_broken : Option Block → Bool
block_broken (Some b) = false
block_broken None = true

-- a VEVENT is asked beside the VEVENTs before it and all of the file, a VFREEBUSY by itself
unfoldable pub breaks_rule : Context → List VEvent → List VEvent → Scope → Component → Bool
breaks_rule c before all Scope.Event k = breaks before all (vevent_of c k)
breaks_rule c before all Scope.FreeBusy k = block_broken (block_of c k)
breaks_rule c before all Scope.Other k = false

unfoldable pub broken_or : Bool → ℕ → Option ℕ → Option ℕ
broken_or true n r = Some n
broken_or false n r = r

-- of components that stand behind the VEVENTs `before`; a broken one is named by its BEGIN line
unfoldable pub first_fault : Context → List VEvent → List VEvent → List Component → Option ℕ
first_fault c before all [] = None
first_fault c before all (k ∷ ks) =
    broken_or (breaks_rule c before all (component_scope k) k) k.begin.number (first_fault c (before ++ vevents_as c (component_scope k) k) all ks)

-- of a whole file
unfoldable pub rule_fault : Context → List Component → Option ℕ
rule_fault c ks = first_fault c [] (vevents c ks) ks

-- ---- the meaning

-- the periods that a line gives
unfoldable pub periods_by : Reading → ContentLine → List BusyPeriod
periods_by unread x = []
periods_by (Reading.fault f) x = []
periods_by (of (span f)) x = []
periods_by (of (repeats r)) x = []
periods_by (of (busy f)) x = []
periods_by (of (identity f)) x = []
periods_by (of (periods b)) x = typed b (good_periods (period_items x.value))

-- the periods of a block, in file order
unfoldable pub block_periods : Context → List Numbered → List BusyPeriod
block_periods c [] = []
block_periods c (x ∷ xs) = periods_by (property_value_of c Scope.FreeBusy x.line) x.line ++ block_periods c xs

-- the starts that are taken away from a VEVENT by itself and by others of its file; nothing else has any
unfoldable pub removed_as : Context → List VEvent → Scope → Component → List ℕ
removed_as c all Scope.Event k = starts_removed all (vevent_of c k)
removed_as c all Scope.FreeBusy k = []
removed_as c all Scope.Other k = []

-- by all the components of its calendar
unfoldable pub removed_from : Context → List Component → Component → List ℕ
removed_from c all k = removed_as c (vevents c all) (component_scope k) k

abbrev pub event_entry : Option Event → List ℕ → List Entry
event_entry (Some e) gone = event e gone ∷ []
event_entry None gone = []

abbrev pub block_entry : Option Block → List BusyPeriod → List Entry
block_entry (Some b) ps = block b ps ∷ []
block_entry None ps = []

-- the entry of a component, beside all the components of its calendar
unfoldable pub entry_of : Context → List Component → Scope → Component → List Entry
entry_of c all Scope.Event k = event_entry (event_of c k) (removed_from c all k)
entry_of c all Scope.FreeBusy k = block_entry (block_of c k) (block_periods c (properties_in k.items))
entry_of c all Scope.Other k = []

unfoldable pub entries_among : Context → List Component → List Component → List Entry
entries_among c all [] = []
entries_among c all (k ∷ ks) = entry_of c all (component_scope k) k ++ entries_among c all ks

-- those of a calendar
unfoldable pub entries_of : Context → List Component → List Entry
entries_of c ks = entries_among c ks ks

-- the lines of a file, each as it is read
unfoldable pub file_lines : List ℕ → List ContentLine
file_lines u = map line_of (content_lines u)

-- the components right below VCALENDAR, in file order
unfoldable pub components_of : List ℕ → List Component
components_of u = components_in (items_below (tree_of (file_lines u)))

-- a fault by its refusal number and its line, or the events and blocks
pub data Meaning : Type 0 where
  fault : ℕ → ℕ → Meaning
  calendar : List Entry → Meaning

unfoldable pub by_rules : Option ℕ → List Entry → Meaning
by_rules None es = calendar es
by_rules (Some n) es = fault 10 n

unfoldable pub by_values : Result (Unit {0}) LineError → Meaning → Meaning
by_values (Ok _) m = m
by_values (Err (LineError.Unsupported n)) m = fault 8 n
by_values (Err (LineError.Bad n)) m = fault 9 n

-- k is 6 for the lines, 7 for their nesting
unfoldable pub by_lines : ℕ → LineCheck → Meaning → Meaning
by_lines k all_good m = m
by_lines k (bad_line n) m = fault k n

-- what lines that are good and nested right mean
unfoldable pub contents_of : Context → List ℕ → Meaning
contents_of c u =
    by_values (value_fault c (components_of u)) (by_rules (rule_fault c (components_of u)) (entries_of c (components_of u)))

-- from the unfolded bytes and the context: the first of refusals 6 to 10 that applies, or what the calendar holds
unfoldable pub meaning_of : Context → List ℕ → Meaning
meaning_of c u = by_lines 6 (line_check u) (by_lines 7 (nesting_of (file_lines u)) (contents_of c u))

-- the fault alone
unfoldable pub fault_of : Meaning → Result (Unit {0}) Refusal
fault_of (fault n i) = refused_at n i
fault_of (calendar es) = Ok tt

-- the first of refusals 6 and 7 that applies
unfoldable pub structure_fault : List ℕ → Result (Unit {0}) Refusal
structure_fault u = fault_of (by_lines 6 (line_check u) (by_lines 7 (nesting_of (file_lines u)) (calendar [])))

-- the same by what reading the structure answers
abbrev pub structure_refusal : Result (Unit {0}) StructureError → Result (Unit {0}) Refusal
structure_refusal (Err (StructureError.BadLine n)) = refused_at 6 n
structure_refusal (Err (StructureError.BadNesting n)) = refused_at 7 n
structure_refusal (Ok _) = Ok tt
