-- Small files of VEVENTs and what R-1 and R-3 make of each: the line of refusal 10, or the instances that are left.
-- Days are those of March 2024, and the offset is 0.
use Rattle.std.specs.Prelude.{ℕ, zero, suc, ◌+◌, ◌-◌, ◌*◌, ◌≡◌, true, cond, None, Option, Some}
use Prim.Native.String.{String}
use mathlib.Core.List.{List, [], ◌∷◌, ◌++◌, Memᴰ, map}
use Rattle.ascii.specs.Words.{ascii}
use Rattle.time.specs.declared.date_time.Kind.{Kind}
use Rattle.periods.specs.declared.BusyType.{BusyType}
use Rattle.periods.specs.BusyTypes.{is_busy}
use Rattle.time.specs.Limits.{epoch}
use Rattle.values.specs.declared.times.Time.{Time}
use Rattle.events.specs.declared.Ending.{Ending}
use Rattle.events.specs.declared.Repeat.{Repeat}
use Rattle.events.specs.declared.Event.{Event}
use Rattle.recurrence.specs.Instances.{start_of, occurs}
use Rattle.recurrence.specs.TimeRange.{EventIn}
use Rattle.overrides.specs.VEvents.{VEvent}
use Rattle.overrides.specs.Instances.{removed_from}
use Rattle.overrides.specs.Rules.{broken_line, all_keep, broken_at}

-- ---- files

-- a VEVENT as it is written: how many lines stand in it, and what they give
pub record Written : Type 0 where
  pub lines : ℕ
  pub uids : List String
  pub recurrence_ids : List Time
  pub exceptions : List Time
  pub event : Option Event

-- one behind the other, the first at line n
unfoldable pub placed : ℕ → List Written → List VEvent
placed n [] = []
placed n (w ∷ ws) =
    record {
      begin = n;
      uids = map ascii w.uids;
      recurrence_ids = w.recurrence_ids;
      exceptions = w.exceptions;
      event = w.event;
    }
    ∷ placed (n + w.lines + 2) ws

-- BEGIN:VCALENDAR is line 1
unfoldable pub file_of : List Written → List VEvent
file_of ws = placed 2 ws

-- ---- what is claimed

-- of n numbers from k on, the starts of the instances that are left
unfoldable pub starts_from : Event → List ℕ → ℕ → ℕ → List ℕ
starts_from e gone k zero = []
starts_from e gone k (suc n) = cond (occurs e gone k) ((start_of e k - epoch) ∷ []) [] ++ starts_from e gone (k + 1) n

-- of busy time, the first 31 instances
unfoldable pub starts_of : List ℕ → Option Event → List ℕ
starts_of gone None = []
starts_of gone (Some e) = cond (is_busy e.busy) (starts_from e gone 0 31) []

unfoldable pub starts_in : List VEvent → List VEvent → List ℕ
starts_in all [] = []
starts_in all (v ∷ vs) = starts_of (removed_from all v) v.event ++ starts_in all vs

pub data Claim : Type 0 where
  -- refusal 10 with this line
  refused : ℕ → List Written → Claim
  -- every rule is kept, and busy time starts at these seconds
  starts : List ℕ → List Written → Claim
  -- no VEVENT is in this range
  outside : ℕ → ℕ → List Written → Claim

abbrev pub Holds : Claim → Type 0
Holds (refused n ws) = broken_line (file_of ws) ≡ broken_at n
Holds (starts ss ws) = (broken_line (file_of ws) ≡ all_keep) × (starts_in (file_of ws) (file_of ws) ≡ ss)
Holds (outside a b ws) =
    (v : VEvent) (e : Event) → Memᴰ v (file_of ws) → v.event ≡ Some e → EventIn e (removed_from (file_of ws) v) a b → ⊥

abbrev pub All : List Claim → Type 0
All [] = Unit {0}
All (c ∷ cs) = Holds c × All cs

-- ---- times and events

-- day d at hour h
unfoldable pub at : ℕ → ℕ → ℕ
at d h = 1_709_164_800 + d * 86_400 + h * 3_600

-- the time of a kind at a second, where the offset is 0
abbrev pub time_at : Kind → ℕ → Time
time_at k s = record { kind = k; clock = s + epoch; second = s }

-- day d at 08:00, and the DATE of day d
unfoldable pub utc : ℕ → Time
utc d = time_at Kind.Utc (at d 8)

unfoldable pub floating : ℕ → Time
floating d = time_at Kind.Floating (at d 8)

unfoldable pub date : ℕ → Time
date d = time_at Kind.Date (at d 0)

-- 08:00 of these days
unfoldable pub mornings : List ℕ → List ℕ
mornings [] = []
mornings (d ∷ ds) = at d 8 ∷ mornings ds

unfoldable pub event_at : Kind → ℕ → Ending → Repeat → BusyType → Option Event
event_at k s x r b = Some (record {
  kind = k;
  start = s;
  ending = x;
  days = 1;
  interval = 1;
  repeat = r;
  busy = b;
})

-- DTSTART on day 11 at 08:00 and nothing else
unfoldable pub bare : Option Event
bare = event_at Kind.Utc (at 11 8) Ending.None Repeat.Once BusyType.Busy

-- an hour from here
unfoldable pub hour : ℕ → Repeat → BusyType → Option Event
hour s r b = event_at Kind.Utc s (Ending.Lasts (record { days = 0; seconds = 3_600; timed = true })) r b

-- an hour from 08:00 on day 11; the same on five days, by COUNT=5
unfoldable pub once : Option Event
once = hour (at 11 8) Repeat.Once BusyType.Busy

unfoldable pub five : Option Event
five = hour (at 11 8) (Repeat.Count 5) BusyType.Busy

-- ---- VEVENTs

-- UID, DTSTART, DURATION, RRULE
unfoldable pub master : String → Written
master u = record { lines = 4; uids = u ∷ []; recurrence_ids = []; exceptions = []; event = five }

-- the same with an EXDATE
unfoldable pub excluding : List Time → Written
excluding ts = record { lines = 5; uids = "u" ∷ []; recurrence_ids = []; exceptions = ts; event = five }

-- the same with a second UID
unfoldable pub two_uids : String → Written
two_uids u = record { lines = 5; uids = "u" ∷ u ∷ []; recurrence_ids = []; exceptions = []; event = five }

-- the same with DTEND beside DURATION
unfoldable pub broken : Written
broken = record { lines = 5; uids = "u" ∷ []; recurrence_ids = []; exceptions = []; event = None }

-- DATE on day 11, on three days
unfoldable pub whole_days : Written
whole_days = record {
  lines = 3;
  uids = "u" ∷ [];
  recurrence_ids = [];
  exceptions = [];
  event = event_at Kind.Date (at 11 0) Ending.None (Repeat.Count 3) BusyType.Busy;
}

-- UIDs and DTSTART
unfoldable pub plain : List String → Written
plain us = record { lines = 2; uids = us; recurrence_ids = []; exceptions = []; event = bare }

-- DTSTART, DURATION, EXDATE
unfoldable pub single : List Time → Written
single ts = record { lines = 3; uids = []; recurrence_ids = []; exceptions = ts; event = once }

-- UID, RECURRENCE-ID, DTSTART
unfoldable pub override : String → Time → Written
override u t = record { lines = 3; uids = u ∷ []; recurrence_ids = t ∷ []; exceptions = []; event = bare }

-- an hour at another second, in place of what this RECURRENCE-ID names
unfoldable pub moved_to : String → Time → ℕ → Written
moved_to u t s = record { lines = 4; uids = u ∷ []; recurrence_ids = t ∷ []; exceptions = []; event = hour s Repeat.Once BusyType.Busy }

-- day 12 goes to 10:00
unfoldable pub later : Written
later = moved_to "u" (utc 12) (at 12 10)

-- how many lines, UIDs, RECURRENCE-IDs, EXDATEs, and the event
unfoldable pub override_with : ℕ → List String → List Time → List Time → Option Event → Written
override_with n us ts xs e = record { lines = n; uids = us; recurrence_ids = ts; exceptions = xs; event = e }

-- ---- the table

unfoldable pub table : List Claim
table =
    -- masters of one UID: the later offends, of three the second; case counts, an empty UID is one, no UID is none
    refused 6 (plain ("u" ∷ []) ∷ plain ("u" ∷ []) ∷ [])
    ∷ refused 6 (plain ("u" ∷ []) ∷ plain ("u" ∷ []) ∷ plain ("u" ∷ []) ∷ [])
    ∷ refused 6 (plain ("" ∷ []) ∷ plain ("" ∷ []) ∷ [])
    ∷ starts (mornings (11 ∷ 11 ∷ [])) (plain ("a" ∷ []) ∷ plain ("A" ∷ []) ∷ [])
    ∷ starts (mornings (11 ∷ 11 ∷ [])) (plain [] ∷ plain [] ∷ [])
    -- by itself: two UIDs; an exception of another kind; a RECURRENCE-ID without UID, twice, beside RRULE, beside EXDATE
    ∷ refused 2 (two_uids "u" ∷ [])
    ∷ refused 2 (excluding (date 12 ∷ []) ∷ [])
    ∷ refused 8 (master "u" ∷ override_with 2 [] (utc 12 ∷ []) [] bare ∷ [])
    ∷ refused 8 (master "u" ∷ override_with 4 ("u" ∷ []) (utc 12 ∷ utc 13 ∷ []) [] bare ∷ [])
    ∷ refused 8 (master "u" ∷ override_with 4 ("u" ∷ []) (utc 12 ∷ []) [] five ∷ [])
    ∷ refused 8 (master "u" ∷ override_with 4 ("u" ∷ []) (utc 12 ∷ []) (utc 13 ∷ []) bare ∷ [])
    ∷ refused 8 (master "u" ∷ override_with 5 ("u" ∷ []) (utc 12 ∷ []) [] None ∷ [])
    -- against its master the override offends, before or behind it: there is none; another kind; excluded; no instance
    ∷ refused 2 (later ∷ [])
    ∷ refused 8 (master "v" ∷ later ∷ [])
    ∷ refused 2 (override "u" (floating 12) ∷ master "u" ∷ [])
    ∷ refused 2 (later ∷ excluding (utc 12 ∷ []) ∷ [])
    ∷ refused 8 (master "u" ∷ override "u" (utc 20) ∷ [])
    ∷ refused 8 (master "u" ∷ override "u" (utc 16) ∷ [])
    ∷ refused 8 (master "u" ∷ override "u" (utc 10) ∷ [])
    ∷ refused 8 (master "u" ∷ override "u" (time_at Kind.Utc (at 12 9)) ∷ [])
    ∷ refused 7 (whole_days ∷ later ∷ [])
    -- two overrides of one second: the later offends
    ∷ refused 14 (master "u" ∷ later ∷ later ∷ [])
    -- nothing is asked of a master that breaks a rule by itself, also if a good one follows; clashes still are
    ∷ refused 7 (override "u" (utc 20) ∷ two_uids "v" ∷ [])
    ∷ refused 7 (override "v" (utc 20) ∷ two_uids "v" ∷ [])
    ∷ refused 8 (later ∷ later ∷ broken ∷ [])
    ∷ refused 8 (later ∷ override "u" (floating 12) ∷ broken ∷ [])
    ∷ refused 7 (override "u" (utc 20) ∷ broken ∷ master "u" ∷ [])
    ∷ refused 2 (override "u" (utc 20) ∷ master "u" ∷ broken ∷ [])
    -- exceptions: they may name nothing, instance 0, or a second twice; COUNT counts what they remove
    ∷ starts (mornings (11 ∷ [])) (single (utc 12 ∷ []) ∷ [])
    ∷ starts [] (single (utc 11 ∷ []) ∷ [])
    ∷ starts (mornings (13 ∷ 14 ∷ 15 ∷ [])) (excluding (utc 11 ∷ utc 12 ∷ utc 12 ∷ []) ∷ [])
    -- overrides: before or behind the master; cancelled; at the same second; of an event without RRULE; of another kind
    ∷ starts (mornings (11 ∷ 13 ∷ 14 ∷ 15 ∷ []) ++ (at 12 10 ∷ [])) (master "u" ∷ later ∷ [])
    ∷ starts (at 12 10 ∷ mornings (11 ∷ 13 ∷ 14 ∷ 15 ∷ [])) (later ∷ master "u" ∷ [])
    ∷ starts (mornings (11 ∷ 13 ∷ 14 ∷ 15 ∷ []))
    (master "u" ∷ override_with 5 ("u" ∷ []) (utc 12 ∷ []) [] (hour (at 11 8) Repeat.Once BusyType.Free) ∷ [])
    ∷ starts (mornings (11 ∷ 13 ∷ 14 ∷ 15 ∷ 12 ∷ [])) (master "u" ∷ moved_to "u" (utc 12) (at 12 8) ∷ [])
    ∷ starts (at 12 10 ∷ []) (plain ("u" ∷ []) ∷ moved_to "u" (utc 11) (at 12 10) ∷ [])
    ∷ starts (at 11 0 ∷ at 13 0 ∷ at 12 10 ∷ []) (whole_days ∷ moved_to "u" (date 12) (at 12 10) ∷ [])
    -- another UID is not touched, and may name the same second
    ∷ starts (mornings (11 ∷ 12 ∷ 13 ∷ 14 ∷ 15 ∷ 11 ∷ 13 ∷ 14 ∷ 15 ∷ []) ++ (at 12 10 ∷ [])) (master "v" ∷ master "u" ∷ later ∷ [])
    ∷ starts (mornings (11 ∷ 13 ∷ 14 ∷ 15 ∷ 11 ∷ 13 ∷ 14 ∷ 15 ∷ []) ++ (at 12 10 ∷ at 12 11 ∷ []))
    (master "v" ∷ master "u" ∷ later ∷ moved_to "v" (utc 12) (at 12 11) ∷ [])
    -- the hour that was moved is not in range any more
    ∷ outside 1_710_230_400 1_710_234_000 (master "u" ∷ later ∷ [])
    ∷ []
