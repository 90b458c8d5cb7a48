-- THE THEOREM of refusal 10 for one component: it breaks no rule exactly where it keeps its rules, beside those before it and all.
-- That the first that does not is named is in FirstFaults.
use Rattle.std.specs.Prelude.{None, Option, Some}
use Prim.Native.Nat.{ℕ}
use mathlib.Core.Path.{◌≡◌, refl, ap}
use mathlib.Core.Bool.{Bool, true, false, cond}
use mathlib.Core.Logic.{◌↔◌}
use mathlib.Core.List.{List, [], ◌∷◌}
use Rattle.ascii.specs.Names.{same_name, same_bytes}
use Rattle.ascii.specs.Words.{ascii}
use Rattle.ascii.proofs.Bools.{clash}
use Rattle.line.specs.Grammar.{ContentLine}
use Rattle.values.specs.Times.{time_of}
use Rattle.values.specs.declared.times.Context.{Context}
use Rattle.values.specs.declared.times.Time.{Time}
use Rattle.periods.specs.declared.BusyType.{BusyType}
use Rattle.property.specs.Properties.{property_of, time_in, busy_of, value_as, before_items, property_value_of}
use Rattle.property.specs.declared.Scope.{Scope}
use Rattle.property.specs.declared.Property.{Property}
use Rattle.property.specs.Facts.{ValueFault, Reading, unread, fault, of, unsupported, bad, span, periods, start, end}
use Rattle.property.proofs.Properties.{time_keeps, zoned_keeps, type_keeps, items_keep}
use Rattle.nesting.specs.Components.{Numbered, Component, properties_in}
use Rattle.events.specs.ComponentRules.{property_name, lines_named, BlockLines, EventRules}
use Rattle.events.specs.declared.Event.{Event}
use Rattle.events.specs.declared.Block.{Block}
use Rattle.events.proofs.ComponentRules.{event_iff, block_iff}
use Rattle.overrides.specs.VEvents.{VEvent}
use Rattle.overrides.proofs.Keeping.{keeps_iff as tied-iff}
use Rattle.calendar.specs.Meaning.{component_scope, property_values_in, event_of, block_of, vevent_of, vevents, block_broken, breaks_rule}
use Rattle.calendar.specs.ComponentRules.{KeepsAs, Keeps}

-- ---- what a line of a VFREEBUSY can say

-- nothing of DURATION, RRULE, STATUS and TRANSP
record BlockLine (s : Reading) : Type 0 where
  no_duration : same_bytes (property_name s) (ascii "DURATION") ≡ false
  no_rule : same_bytes (property_name s) (ascii "RRULE") ≡ false
  no_status : same_bytes (property_name s) (ascii "STATUS") ≡ false
  no_transparency : same_bytes (property_name s) (ascii "TRANSP") ≡ false

nothing_line : BlockLine unread
unfolding property_name
nothing_line = record { no_duration = refl; no_rule = refl; no_status = refl; no_transparency = refl }

fault_line : (f : ValueFault) → BlockLine (fault f)
unfolding property_name
fault_line f = record { no_duration = refl; no_rule = refl; no_status = refl; no_transparency = refl }

start_line : (t : Time) → BlockLine (of (span (start t)))
unfolding property_name
start_line t = record { no_duration = refl; no_rule = refl; no_status = refl; no_transparency = refl }

end_line : (t : Time) → BlockLine (of (span (end t)))
unfolding property_name
end_line t = record { no_duration = refl; no_rule = refl; no_status = refl; no_transparency = refl }

periods_line : (b : BusyType) → BlockLine (of (periods b))
unfolding property_name
periods_line b = record { no_duration = refl; no_rule = refl; no_status = refl; no_transparency = refl }

block_line : (c : Context) (x : ContentLine) → BlockLine (property_value_of c Scope.FreeBusy x)
unfolding property_value_of before_items property_of value_as
block_line c x =
    items_keep BlockLine (fault_line bad) c x.value (before_items c Scope.FreeBusy x)
    (go (same_name x.name (ascii "DTSTART")) (same_name x.name (ascii "DTEND")) (same_name x.name (ascii "FREEBUSY")))
  where
    go : (s e p : Bool)
        → BlockLine (value_as (cond s (Some Property.Start) (cond e (Some Property.End) (cond p (Some Property.Periods) None))) c Scope.FreeBusy x)
    go true e p = zoned_keeps BlockLine (fault_line unsupported) x _ (time_keeps BlockLine (fault_line bad) (λ t. span (start t)) (time_in Scope.FreeBusy (time_of c x)) (λ t h. start_line t))
    go false true p = zoned_keeps BlockLine (fault_line unsupported) x _ (time_keeps BlockLine (fault_line bad) (λ t. span (end t)) (time_in Scope.FreeBusy (time_of c x)) (λ t h. end_line t))
    go false false true = type_keeps BlockLine (fault_line bad) x (periods_line (busy_of x))
    go false false false = nothing_line

-- one line more that is not of the property
none_more : (w : List ℕ) (s : Reading) (ss : List Reading) → same_bytes (property_name s) w ≡ false → lines_named w ss ≡ 0 → lines_named w (s ∷ ss) ≡ 0
unfolding lines_named
none_more w s ss e h = rw e h

block_lines : (c : Context) (xs : List Numbered) → BlockLines (property_values_in c Scope.FreeBusy xs)
unfolding property_values_in lines_named
block_lines c [] = record { no_durations = refl; no_rules = refl; no_statuses = refl; no_transparencies = refl }
block_lines c (x ∷ xs) =
    let s = property_value_of c Scope.FreeBusy x.line in
    let ss = property_values_in c Scope.FreeBusy xs in
    let h = block_line c x.line in
    let r = block_lines c xs in
    record {
      no_durations = none_more (ascii "DURATION") s ss h.no_duration r.no_durations;
      no_rules = none_more (ascii "RRULE") s ss h.no_rule r.no_rules;
      no_statuses = none_more (ascii "STATUS") s ss h.no_status r.no_statuses;
      no_transparencies = none_more (ascii "TRANSP") s ss h.no_transparency r.no_transparencies;
    }

-- ---- one component

block_read : (r : Option Block) → block_broken r ≡ false → (b : Block) × (r ≡ Some b)
block_read (Some b) h = (b, refl)
block_read None h = clash refl h

-- a VEVENT is an event exactly where its lines keep the rules of document 01
pub event_rules_iff : (c : Context) (k : Component)
    → ((e : Event) × ((vevent_of c k).event ≡ Some e)) ↔ EventRules (property_values_in c Scope.Event (properties_in k.items))
unfolding vevent_of event_of
event_rules_iff c k = event_iff (property_values_in c Scope.Event (properties_in k.items))

module _ (c : Context) (before all : List VEvent) where
  keeps_as : (s : Scope) (k : Component) → breaks_rule c before all s k ≡ false → KeepsAs c before all s k
  unfolding breaks_rule block_of
  keeps_as Scope.Event k h =
      let t = (tied-iff before all (vevent_of c k)).0 h in
      record { lines = (event_rules_iff c k).0 (t.alone.its_event, t.alone.is_event_holds); tied = t }
  keeps_as Scope.FreeBusy k h =
      let xs = properties_in k.items in
      (block_iff (property_values_in c Scope.FreeBusy xs) (block_lines c xs)).0 (block_read (block_of c k) h)
  keeps_as Scope.Other k h = tt

  as_keeps : (s : Scope) (k : Component) → KeepsAs c before all s k → breaks_rule c before all s k ≡ false
  unfolding breaks_rule block_of
  as_keeps Scope.Event k h = (tied-iff before all (vevent_of c k)).1 h.tied
  as_keeps Scope.FreeBusy k h =
      let xs = properties_in k.items in
      ap block_broken ((block_iff (property_values_in c Scope.FreeBusy xs) (block_lines c xs)).1 h).1
  as_keeps Scope.Other k h = refl

-- a component breaks no rule exactly where it keeps its rules beside the others
pub keeps_iff : (c : Context) (before all : List Component) (k : Component)
    → (breaks_rule c (vevents c before) (vevents c all) (component_scope k) k ≡ false) ↔ Keeps c before all k
keeps_iff c before all k = (
  keeps_as c (vevents c before) (vevents c all) (component_scope k) k,
  as_keeps c (vevents c before) (vevents c all) (component_scope k) k,
)
