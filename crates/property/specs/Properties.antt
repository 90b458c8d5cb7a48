-- What a line says (document 01, Values), by the component that it stands directly in.
-- Here, and nowhere else, it is decided which properties are read.
use Rattle.std.specs.Prelude.{ℕ, ◌≤◌, Bool, true, false, cond, ◌||◌, List, [], ◌∷◌, Err, None, Ok, Option, Result, Some}
use Rattle.values.specs.declared.rule.ValueError.{ValueError}
use Rattle.values.specs.declared.rule.Rule.{Rule}
use Rattle.time.specs.declared.duration.Duration.{Duration}
use Rattle.ascii.specs.Names.{same_name}
use Rattle.ascii.specs.Words.{ascii}
use Rattle.time.specs.Duration.{read_duration}
use Rattle.time.specs.Limits.{last_second}
use Rattle.line.specs.Grammar.{ContentLine}
use Rattle.line.specs.Reading.{has_parameter, has_twice, has_list, first_value}
use Rattle.values.specs.Times.{form_of, time_of, utc_only}
use Rattle.values.specs.TimeLists.{time_items, all_times}
use Rattle.values.specs.Rule.{rule_of, RuleSmall}
use Rattle.values.specs.Period.{period_items, all_periods, DurationSmall}
use Rattle.values.specs.declared.times.Context.{Context}
use Rattle.values.specs.declared.times.Form.{Form}
use Rattle.values.specs.declared.times.Time.{Time}
use Rattle.property.specs.declared.Scope.{Scope}
use Rattle.property.specs.declared.Property.{Property}
use Rattle.property.specs.declared.Status.{Status}
use Rattle.periods.specs.declared.BusyType.{BusyType}
use Rattle.property.specs.Facts.{Fact, Reading, unread, fault, of, unsupported, bad, span, repeats, busy, identity, periods}
use Rattle.property.specs.Facts.{start, end, lasts, status, transparent, uid, recurrence_id, exceptions}

-- a word, and the property that it names
pub record PropertyWord : Type 0 where
  pub word : List ℕ
  pub means : Property

abbrev pub entry : List ℕ → Property → PropertyWord
entry w p = record { word = w; means = p }

-- what is read directly in a VEVENT and in a VFREEBUSY, and what a VEVENT may not have (refusal 8); in any other component nothing is
abbrev pub words_in : Scope → List PropertyWord
words_in Scope.Event =
    entry (ascii "DTSTART") Property.Start
    ∷ entry (ascii "DTEND") Property.End
    ∷ entry (ascii "DURATION") Property.Duration
    ∷ entry (ascii "RRULE") Property.Rule
    ∷ entry (ascii "STATUS") Property.Status
    ∷ entry (ascii "TRANSP") Property.Transparency
    ∷ entry (ascii "UID") Property.Uid
    ∷ entry (ascii "RECURRENCE-ID") Property.RecurrenceId
    ∷ entry (ascii "EXDATE") Property.Exceptions
    ∷ entry (ascii "RDATE") Property.Unsupported
    ∷ entry (ascii "EXRULE") Property.Unsupported
    ∷ []
words_in Scope.FreeBusy =
    entry (ascii "DTSTART") Property.Start ∷ entry (ascii "DTEND") Property.End ∷ entry (ascii "FREEBUSY") Property.Periods ∷ []
words_in Scope.Other = []

-- the property of the first word that is the name; of no word, none is read
abbrev pub picked : List ℕ → List PropertyWord → Option Property
picked n [] = None
picked n (e ∷ es) = cond (same_name n e.word) (Some e.means) (picked n es)

unfoldable pub property_of : Scope → List ℕ → Option Property
property_of s n = picked n (words_in s)

-- in VFREEBUSY a time is UTC
unfoldable pub time_in : Scope → Option Time → Option Time
time_in Scope.Event r = r
time_in Scope.FreeBusy r = utc_only r
time_in Scope.Other r = r

-- the fact that a time states
unfoldable pub time_fact : (Time → Fact) → Option Time → Reading
time_fact f (Some t) = of (f t)
time_fact f None = fault bad

-- the times of EXDATE are of this form
unfoldable pub exceptions_by : Form → Reading
exceptions_by Form.DateTime = of (identity (exceptions Form.DateTime))
exceptions_by Form.Date = of (identity (exceptions Form.Date))
exceptions_by Form.Wrong = fault bad

-- a time with TZID is unsupported, whatever else is on its line
unfoldable pub unless_zoned : ContentLine → Reading → Reading
unless_zoned x s = cond (has_parameter (ascii "TZID") x) (fault unsupported) s

-- so is RECURRENCE-ID with RANGE
unfoldable pub unless_ranged : ContentLine → Reading → Reading
unless_ranged x s = cond (has_parameter (ascii "RANGE") x) (fault unsupported) s

unfoldable pub duration_by : Option Duration → Reading
duration_by (Some d) = of (span (lasts d))
duration_by None = fault bad

unfoldable pub rule_value : Result Rule ValueError → Reading
rule_value (Ok r) = of (repeats r)
rule_value (Err ValueError.Unsupported) = fault unsupported
rule_value (Err ValueError.Bad) = fault bad

-- STATUS has no bad value
unfoldable pub status_named : List ℕ → Status
status_named v =
    cond (same_name v (ascii "CANCELLED")) Status.Cancelled (cond (same_name v (ascii "TENTATIVE")) Status.Tentative Status.Other)

-- the words of FBTYPE; none of them is BUSY
unfoldable pub busy_named : List ℕ → BusyType
busy_named w =
    cond (same_name w (ascii "FREE")) BusyType.Free
    (cond (same_name w (ascii "BUSY-TENTATIVE")) BusyType.Tentative (cond (same_name w (ascii "BUSY-UNAVAILABLE")) BusyType.Unavailable BusyType.Busy))

-- FBTYPE of a line; without it BUSY (an empty word is another word)
unfoldable pub busy_of : ContentLine → BusyType
busy_of x = busy_named (first_value (ascii "FBTYPE") x)

-- FREEBUSY by its FBTYPE, which may stand neither twice nor as a list
unfoldable pub type_value : ContentLine → Reading
type_value x = cond (has_twice (ascii "FBTYPE") x || has_list (ascii "FBTYPE") x) (fault bad) (of (periods (busy_of x)))

-- what a line says as a property, the items of its list not looked at; UID may have any value. As none nothing is read
unfoldable pub value_as : Option Property → Context → Scope → ContentLine → Reading
value_as (Some Property.Start) c s x = unless_zoned x (time_fact (λ t. span (start t)) (time_in s (time_of c x)))
value_as (Some Property.End) c s x = unless_zoned x (time_fact (λ t. span (end t)) (time_in s (time_of c x)))
value_as (Some Property.Duration) c s x = duration_by (read_duration x.value)
value_as (Some Property.Rule) c s x = rule_value (rule_of c x.value)
value_as (Some Property.Status) c s x = of (busy (status (status_named x.value)))
value_as (Some Property.Transparency) c s x = of (busy (transparent (same_name x.value (ascii "TRANSPARENT"))))
value_as (Some Property.Uid) c s x = of (identity uid)
value_as (Some Property.RecurrenceId) c s x = unless_ranged x (unless_zoned x (time_fact (λ t. identity (recurrence_id t)) (time_of c x)))
value_as (Some Property.Exceptions) c s x = unless_zoned x (exceptions_by (form_of x))
value_as (Some Property.Periods) c s x = type_value x
value_as (Some Property.Unsupported) c s x = fault unsupported
value_as None c s x = unread

-- what a line says, the items of its list not looked at
unfoldable pub before_items : Context → Scope → ContentLine → Reading
before_items c s x = value_as (property_of s x.name) c s x

-- EXDATE with this value has only good times, FREEBUSY only good periods; nothing else has items
unfoldable pub items_good : Context → List ℕ → Fact → Bool
items_good c v (span f) = true
items_good c v (repeats r) = true
items_good c v (busy f) = true
items_good c v (identity uid) = true
items_good c v (identity (recurrence_id t)) = true
items_good c v (identity (exceptions f)) = all_times (time_items c f v)
items_good c v (periods b) = all_periods (period_items v)

-- a list is bad where any of its items is
unfoldable pub with_items : Context → List ℕ → Reading → Reading
with_items c v unread = unread
with_items c v (fault f) = fault f
with_items c v (of f) = cond (items_good c v f) (of f) (fault bad)

-- what a line says
unfoldable pub property_value_of : Context → Scope → ContentLine → Reading
property_value_of c s x = with_items c x.value (before_items c s x)

-- does it give periods?
unfoldable pub gives_periods : Reading → Bool
gives_periods unread = false
gives_periods (fault f) = false
gives_periods (of (span f)) = false
gives_periods (of (repeats r)) = false
gives_periods (of (busy f)) = false
gives_periods (of (identity f)) = false
gives_periods (of (periods b)) = true

-- how large what a line says can be
abbrev pub PropertyValueSmall : Reading → Type 0
PropertyValueSmall unread = Unit {0}
PropertyValueSmall (fault f) = Unit {0}
PropertyValueSmall (of (span (start t))) = t.second ≤ last_second
PropertyValueSmall (of (span (end t))) = t.second ≤ last_second
PropertyValueSmall (of (span (lasts d))) = DurationSmall d
PropertyValueSmall (of (repeats r)) = RuleSmall r
PropertyValueSmall (of (busy f)) = Unit {0}
PropertyValueSmall (of (identity uid)) = Unit {0}
PropertyValueSmall (of (identity (recurrence_id t))) = t.second ≤ last_second
PropertyValueSmall (of (identity (exceptions f))) = Unit {0}
PropertyValueSmall (of (periods b)) = Unit {0}
