-- Refusal 10 of VEVENTs (requests R-1 and R-3): which rules one breaks by itself, and which beside the others of its file.
-- Of two that clash the later breaks the rule, and of an override and its master the override. Keeping has the rules for the reader.
use Rattle.std.specs.Prelude.{ℕ, Bool, true, false, cond, not, ◌&&◌, ◌||◌, List, [], ◌∷◌, ◌++◌, None, Option, Some}
use Rattle.seconds.specs.Seconds.{among}
use Rattle.time.specs.declared.date_time.Kind.{Kind}
use Rattle.values.specs.TimeLists.{seconds_of, same_kind}
use Rattle.events.specs.declared.Event.{Event}
use Rattle.events.specs.declared.Repeat.{Repeat}
use Rattle.overrides.specs.Lists.{some, is_empty, two_or_more}
use Rattle.overrides.specs.VEvents.{VEvent, is_master, is_override, shares_uid, MasterFound, nowhere, found, master_of}
use Rattle.overrides.specs.Instances.{names_instance}

-- ---- by itself

-- there is an RRULE
unfoldable pub has_rule : Repeat → Bool
has_rule Repeat.Once = false
has_rule Repeat.Forever = true
has_rule (Repeat.Count n) = true
has_rule (Repeat.Until t) = true

-- a time of this kind and DTSTART differ in kind
unfoldable pub other_kind : Event → Kind → Bool
other_kind e k = not (same_kind k e.kind)

-- an override: no UID, a second RECURRENCE-ID, an EXDATE or an RRULE beside it
unfoldable pub override_breaks : VEvent → Event → Bool
override_breaks v e = is_empty v.uids || two_or_more v.recurrence_ids || not (is_empty v.exceptions) || has_rule e.repeat

-- by its event: the rules of document 01, and the kinds of exceptions
unfoldable pub event_breaks : VEvent → Option Event → Bool
event_breaks v None = true
event_breaks v (Some e) = some (λ t. other_kind e t.kind) v.exceptions || is_override v && override_breaks v e

-- any VEVENT: a second UID too
unfoldable pub breaks_alone : VEvent → Bool
breaks_alone v = two_or_more v.uids || event_breaks v v.event

-- ---- beside others

-- both are masters, and of one UID
unfoldable pub masters_clash : VEvent → VEvent → Bool
masters_clash v w = is_master v && is_master w && shares_uid v w

-- both name one second, and are of one UID; their kinds do not matter
unfoldable pub overrides_clash : VEvent → VEvent → Bool
overrides_clash v w = shares_uid v w && some (λ t. among t.second (seconds_of w.recurrence_ids)) v.recurrence_ids

-- a RECURRENCE-ID of kind k at second s does not fit the event of the master m: its kind is another, no instance starts there, or it is excluded
unfoldable pub misnames : VEvent → Option Event → Kind → ℕ → Bool
misnames m None k s = false
misnames m (Some e) k s = other_kind e k || not (names_instance e s) || among s (seconds_of m.exceptions)

-- a RECURRENCE-ID must have a master; one that breaks a rule by itself is not asked further
unfoldable pub misplaced : Kind → ℕ → MasterFound → Bool
misplaced k s nowhere = true
misplaced k s (found m) = not (breaks_alone m) && misnames m m.event k s

-- an override, for each RECURRENCE-ID and each UID that it has
unfoldable pub override_misplaced : List VEvent → VEvent → Bool
override_misplaced all v = some (λ t. some (λ u. misplaced t.kind t.second (master_of u all)) v.uids) v.recurrence_ids

-- v clashes with one before it, or names nothing of a master that may stand anywhere in the file
unfoldable pub breaks_beside : List VEvent → List VEvent → VEvent → Bool
breaks_beside before all v = some (masters_clash v) before || some (overrides_clash v) before || override_misplaced all v

-- any rule
unfoldable pub breaks : List VEvent → List VEvent → VEvent → Bool
breaks before all v = breaks_alone v || breaks_beside before all v

-- ---- the line

-- every VEVENT keeps the rules, or the line of one that does not
pub data RuleLine : Type 0 where
  all_keep : RuleLine
  broken_at : ℕ → RuleLine

-- of the VEVENTs vs, which stand behind `before`, the first that breaks a rule: the line of its BEGIN
unfoldable pub first_broken : List VEvent → List VEvent → List VEvent → RuleLine
first_broken before all [] = all_keep
first_broken before all (v ∷ vs) = cond (breaks before all v) (broken_at v.begin) (first_broken (before ++ (v ∷ [])) all vs)

-- of a whole file
unfoldable pub broken_line : List VEvent → RuleLine
broken_line all = first_broken [] all all
