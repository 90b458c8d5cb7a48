-- Refusal 10 (document 01, Events and blocks; requests R-1 and R-3), for the reader: what it means that a component keeps its rules.
-- Tied to `breaks_rule` in proofs/ComponentRules.antt; the first component that does not keep them is in FirstFaults.
use Rattle.std.specs.Prelude.{ℕ, ◌≡◌, List, [], ◌∷◌}
use Rattle.ascii.specs.Names.{same_name}
use Rattle.ascii.specs.Words.{ascii}
use Rattle.values.specs.declared.times.Context.{Context}
use Rattle.property.specs.declared.Scope.{Scope}
use Rattle.property.specs.Facts.{Reading}
use Rattle.nesting.specs.Components.{Numbered, Component, properties_in}
use Rattle.events.specs.ComponentRules.{count_if, lines_named, EventRules, BlockRules}
use Rattle.overrides.specs.VEvents.{VEvent}
use Rattle.overrides.specs.Keeping.{Keeps as KeepsTied}
use Rattle.calendar.specs.Meaning.{component_scope, property_values_in, vevent_of, vevents}

-- a VEVENT, behind the VEVENTs `before`, in a file of these all
pub record VEventRules (c : Context) (before all : List VEvent) (k : Component) : Type 0 where
  -- its lines keep the rules of document 01
  pub lines : EventRules (property_values_in c Scope.Event (properties_in k.items))
  -- and it keeps those of R-3, by itself and beside others
  pub tied : KeepsTied before all (vevent_of c k)

-- a VEVENT and a VFREEBUSY have rules, any other component has none
abbrev pub KeepsAs : Context → List VEvent → List VEvent → Scope → Component → Type 0
KeepsAs c before all Scope.Event k = VEventRules c before all k
KeepsAs c before all Scope.FreeBusy k = BlockRules (property_values_in c Scope.FreeBusy (properties_in k.items))
KeepsAs c before all Scope.Other k = Unit {0}

-- the component, behind the components `before`, in a file of these all, keeps the rules that its name asks for
abbrev pub Keeps : Context → List Component → List Component → Component → Type 0
Keeps c before all k = KeepsAs c (vevents c before) (vevents c all) (component_scope k) k

-- ---- the counts in these rules are counts of lines by their names, since 8 and 9 are given before 10: proofs/LineCounts.antt

-- how many of the lines have this name
unfoldable pub lines_called : List ℕ → List Numbered → ℕ
lines_called n [] = 0
lines_called n (x ∷ xs) = count_if (same_name x.line.name n) (lines_called n xs)

-- in a VEVENT there are as many that say something of a property as there are lines with its name
pub record EventCounts (xs : List Numbered) (ss : List Reading) : Type 0 where
  pub starts : lines_named (ascii "DTSTART") ss ≡ lines_called (ascii "DTSTART") xs
  pub ends : lines_named (ascii "DTEND") ss ≡ lines_called (ascii "DTEND") xs
  pub durations : lines_named (ascii "DURATION") ss ≡ lines_called (ascii "DURATION") xs
  pub rules : lines_named (ascii "RRULE") ss ≡ lines_called (ascii "RRULE") xs
  pub statuses : lines_named (ascii "STATUS") ss ≡ lines_called (ascii "STATUS") xs
  pub transparencies : lines_named (ascii "TRANSP") ss ≡ lines_called (ascii "TRANSP") xs

-- the same in a VFREEBUSY
pub record BlockCounts (xs : List Numbered) (ss : List Reading) : Type 0 where
  pub starts : lines_named (ascii "DTSTART") ss ≡ lines_called (ascii "DTSTART") xs
  pub ends : lines_named (ascii "DTEND") ss ≡ lines_called (ascii "DTEND") xs
