-- The rules of a VEVENT and of a VFREEBUSY (document 01, Events and blocks, first paragraph), for the reader: how many lines there may be
-- of each property, and how what they say fits together. They speak of the list of what each line directly in the component says.
-- A line with a bad or unsupported value is refused before these rules are asked. Tied to `event_by` and `block_by` in
-- proofs/ComponentRules.antt.
use Rattle.std.specs.Prelude.{ℕ, suc, ◌+◌, ◌≤◌, ◌<◌, ◌≡◌, Bool, true, false}
use mathlib.Core.List.{List, [], ◌∷◌, Memᴰ}
use Rattle.ascii.specs.Names.{same_bytes}
use Rattle.ascii.specs.Words.{ascii}
use Rattle.time.specs.declared.date_time.Kind.{Kind}
use Rattle.time.specs.declared.duration.Duration.{Duration}
use Rattle.values.specs.declared.times.Time.{Time}
use Rattle.values.specs.declared.rule.Limit.{Limit}
use Rattle.values.specs.declared.rule.Rule.{Rule}
use Rattle.property.specs.Facts.{Reading, unread, fault, of, span, repeats, busy, identity, periods}
use Rattle.property.specs.Facts.{start, end, lasts, status, transparent, uid, recurrence_id, exceptions}

-- the name of the property that says it; none, where nothing is read
unfoldable pub property_name : Reading → List ℕ
property_name unread = []
property_name (fault f) = []
property_name (of (span (start t))) = ascii "DTSTART"
property_name (of (span (end t))) = ascii "DTEND"
property_name (of (span (lasts d))) = ascii "DURATION"
property_name (of (repeats r)) = ascii "RRULE"
property_name (of (busy (status s))) = ascii "STATUS"
property_name (of (busy (transparent t))) = ascii "TRANSP"
property_name (of (identity uid)) = ascii "UID"
property_name (of (identity (recurrence_id t))) = ascii "RECURRENCE-ID"
property_name (of (identity (exceptions f))) = ascii "EXDATE"
property_name (of (periods b)) = ascii "FREEBUSY"

-- one more, where the test holds
abbrev pub count_if : Bool → ℕ → ℕ
count_if true n = suc n
count_if false n = n

-- how many of the lines are of this property
unfoldable pub lines_named : List ℕ → List Reading → ℕ
lines_named n [] = 0
lines_named n (s ∷ ss) = count_if (same_bytes (property_name s) n) (lines_named n ss)

-- DTEND e beside DTSTART s: of its kind (UTC, floating, DATE), and later
pub record EndFits (s e : Time) : Type 0 where
  pub same_kind : e.kind ≡ s.kind
  pub later : s.second < e.second

-- DURATION d beside DTSTART s: on a DATE its text has no time part
pub record DurationFits (s : Time) (d : Duration) : Type 0 where
  pub no_time_on_date : s.kind ≡ Kind.Date → d.timed ≡ false

-- UNTIL t beside DTSTART s: of its kind, and not before it
pub record UntilFits (s t : Time) : Type 0 where
  pub same_kind : t.kind ≡ s.kind
  pub not_before : s.second ≤ t.second

-- what the lines of a VEVENT must be: one DTSTART, at most one each of five others, and what a DTEND, a DURATION and an UNTIL must be
pub record EventRules (ss : List Reading) : Type 0 where
  pub one_start : lines_named (ascii "DTSTART") ss ≡ 1
  pub few_ends : lines_named (ascii "DTEND") ss ≤ 1
  pub few_durations : lines_named (ascii "DURATION") ss ≤ 1
  pub few_rules : lines_named (ascii "RRULE") ss ≤ 1
  pub few_statuses : lines_named (ascii "STATUS") ss ≤ 1
  pub few_transparencies : lines_named (ascii "TRANSP") ss ≤ 1
  pub not_both : lines_named (ascii "DTEND") ss + lines_named (ascii "DURATION") ss ≤ 1
  pub end_fits : (s e : Time) → Memᴰ (of (span (start s))) ss → Memᴰ (of (span (end e))) ss → EndFits s e
  pub duration_fits : (s : Time) (d : Duration) → Memᴰ (of (span (start s))) ss → Memᴰ (of (span (lasts d))) ss → DurationFits s d
  pub until_fits : (s : Time) (r : Rule) (t : Time) → Memᴰ (of (span (start s))) ss → Memᴰ (of (repeats r)) ss
      → r.limit ≡ Limit.Until t → UntilFits s t

-- what the lines of a VFREEBUSY must be: at most one DTSTART and one DTEND, and with both, the second is later
pub record BlockRules (ss : List Reading) : Type 0 where
  pub few_starts : lines_named (ascii "DTSTART") ss ≤ 1
  pub few_ends : lines_named (ascii "DTEND") ss ≤ 1
  pub end_later : (s e : Time) → Memᴰ (of (span (start s))) ss → Memᴰ (of (span (end e))) ss → s.second < e.second

-- only what a line of a VFREEBUSY can say: no DURATION, RRULE, STATUS or TRANSP is read there
pub record BlockLines (ss : List Reading) : Type 0 where
  pub no_durations : lines_named (ascii "DURATION") ss ≡ 0
  pub no_rules : lines_named (ascii "RRULE") ss ≡ 0
  pub no_statuses : lines_named (ascii "STATUS") ss ≡ 0
  pub no_transparencies : lines_named (ascii "TRANSP") ss ≡ 0
