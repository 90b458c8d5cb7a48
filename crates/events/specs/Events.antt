-- Events and blocks (document 01, Events and blocks, first two paragraphs): the component rules of refusal 10.
use Rattle.std.specs.Prelude.{ℕ, Bool, true, false, cond, ◌&&◌, List, eqb, ltb, leb, None, Option, Some}
use Rattle.values.specs.declared.rule.Rule.{Rule}
use Rattle.time.specs.declared.date_time.Kind.{Kind}
use Rattle.time.specs.declared.duration.Duration.{Duration}
use Rattle.values.specs.declared.times.Time.{Time}
use Rattle.values.specs.declared.rule.Limit.{Limit}
use Rattle.property.specs.declared.Status.{Status}
use Rattle.periods.specs.declared.BusyType.{BusyType}
use Rattle.periods.specs.BusyTypes.{BusyPeriod}
use Rattle.events.specs.declared.Ending.{Ending}
use Rattle.events.specs.declared.Repeat.{Repeat}
use Rattle.events.specs.declared.Event.{Event}
use Rattle.events.specs.declared.Block.{Block}
use Rattle.events.specs.declared.ComponentProperties.{ComponentProperties}

-- kinds: UTC, floating, DATE
unfoldable pub kind_number : Kind → ℕ
kind_number Kind.Utc = 0
kind_number Kind.Floating = 1
kind_number Kind.Date = 2

unfoldable pub same_kind : Time → Time → Bool
same_kind a b = eqb (kind_number a.kind) (kind_number b.kind)

unfoldable pub is_date : Kind → Bool
is_date Kind.Utc = false
is_date Kind.Floating = false
is_date Kind.Date = true

-- DTEND is of DTSTART's kind and later
unfoldable pub stated_end : Time → Time → Option Ending
stated_end s e = cond (same_kind e s && ltb s.second e.second) (Some (Ending.End e.second)) None

-- an event on a DATE lasts whole days: its duration names no time
unfoldable pub stated_duration : Time → Duration → Option Ending
stated_duration s d = cond (is_date s.kind && d.timed) None (Some (Ending.Lasts d))

-- one of three endings; not both DTEND and DURATION
unfoldable pub ending_by : Time → Option Time → Option Duration → Option Ending
ending_by s None None = Some Ending.None
ending_by s (Some e) None = stated_end s e
ending_by s None (Some d) = stated_duration s d
ending_by s (Some e) (Some d) = None

-- UNTIL must be a time like DTSTART, and no earlier
unfoldable pub limit_by : Time → Limit → Option Repeat
limit_by s Limit.Forever = Some Repeat.Forever
limit_by s (Limit.Count n) = Some (Repeat.Count n)
limit_by s (Limit.Until t) = cond (same_kind t s && leb s.second t.second) (Some (Repeat.Until t.second)) None

-- without a rule there is instance 0 only
unfoldable pub repeat_by : Time → Option Rule → Option Repeat
repeat_by s None = Some Repeat.Once
repeat_by s (Some r) = limit_by s r.limit

unfoldable pub days_by : Option Rule → ℕ
days_by None = 1
days_by (Some r) = r.days

unfoldable pub interval_by : Option Rule → ℕ
interval_by None = 1
interval_by (Some r) = r.interval

-- STATUS CANCELLED is free, TENTATIVE tentative, any other or none busy
unfoldable pub busy_by_status : Option Status → BusyType
busy_by_status (Some Status.Cancelled) = BusyType.Free
busy_by_status (Some Status.Tentative) = BusyType.Tentative
busy_by_status (Some Status.Other) = BusyType.Busy
busy_by_status None = BusyType.Busy

-- TRANSP TRANSPARENT is free, before STATUS is asked
unfoldable pub busy_by : Option Bool → Option Status → BusyType
busy_by (Some true) s = BusyType.Free
busy_by (Some false) s = busy_by_status s
busy_by None s = busy_by_status s

-- the event that starts, ends and repeats so
unfoldable pub event_made : Time → ComponentProperties → Ending → Repeat → Event
event_made s g e r =
    record {
      kind = s.kind;
      start = s.second;
      ending = e;
      days = days_by g.repeats;
      interval = interval_by g.repeats;
      repeat = r;
      busy = busy_by g.busy.transparency g.busy.status;
    }

unfoldable pub event_with : Time → ComponentProperties → Option Ending → Option Repeat → Option Event
event_with s g (Some e) (Some r) = Some (event_made s g e r)
event_with s g (Some e) None = None
event_with s g None r = None

-- exactly one DTSTART
unfoldable pub event_from : Option Time → ComponentProperties → Option Event
event_from None g = None
event_from (Some s) g = event_with s g (ending_by s g.span.end g.span.lasts) (repeat_by s g.repeats)

-- A VEVENT, by what its lines say
unfoldable pub event_by : ComponentProperties → Option Event
event_by g = cond g.repeated None (event_from g.span.start g)

-- if both, DTEND is later
unfoldable pub block_between : ℕ → ℕ → Option Block
block_between s e = cond (ltb s e) (Some (record { start = Some s; end = Some e })) None

unfoldable pub block_from : Option Time → Option Time → Option Block
block_from None None = Some (record { start = None; end = None })
block_from (Some s) None = Some (record { start = Some s.second; end = None })
block_from None (Some e) = Some (record { start = None; end = Some e.second })
block_from (Some s) (Some e) = block_between s.second e.second

-- A VFREEBUSY, by what its lines say: at most one DTSTART and one DTEND
unfoldable pub block_by : ComponentProperties → Option Block
block_by g = cond g.repeated None (block_from g.span.start g.span.end)

-- what a calendar holds: events, each with the starts that are taken away from it, and blocks with their periods
pub data Entry : Type 0 where
  event : Event → List ℕ → Entry
  block : Block → List BusyPeriod → Entry
