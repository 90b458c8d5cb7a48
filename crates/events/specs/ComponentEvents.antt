-- Which event a VEVENT is, and which block a VFREEBUSY is (document 01, Events and blocks), for the reader: each part of it, by the line that
-- says it, or by there being no such line. They speak of the list of what each line directly in the component says, as the rules of
-- ComponentRules do. Tied to `event_by` and `block_by` in proofs/ComponentEvents.antt.
use Rattle.std.specs.Prelude.{ℕ, ◌≡◌, true, None, Some}
use mathlib.Core.List.{List, Memᴰ}
use Rattle.ascii.specs.Words.{ascii}
use Rattle.time.specs.declared.duration.Duration.{Duration}
use Rattle.values.specs.declared.times.Time.{Time}
use Rattle.values.specs.declared.rule.Limit.{Limit}
use Rattle.values.specs.declared.rule.Rule.{Rule}
use Rattle.property.specs.declared.Status.{Status}
use Rattle.property.specs.Facts.{Reading, of, span, repeats, busy, start, end, lasts, status, transparent}
use Rattle.periods.specs.declared.BusyType.{BusyType}
use Rattle.events.specs.ComponentRules.{lines_named}
use Rattle.events.specs.declared.Ending.{Ending}
use Rattle.events.specs.declared.Repeat.{Repeat}
use Rattle.events.specs.declared.Event.{Event}
use Rattle.events.specs.declared.Block.{Block}

-- the event of a VEVENT
pub record EventIs (ss : List Reading) (e : Event) : Type 0 where
  -- DTSTART s
  pub kind_is : (s : Time) → Memᴰ (of (span (start s))) ss → e.kind ≡ s.kind
  pub start_is : (s : Time) → Memᴰ (of (span (start s))) ss → e.start ≡ s.second
  -- DTEND t, DURATION d, neither
  pub end_is : (t : Time) → Memᴰ (of (span (end t))) ss → e.ending ≡ Ending.End t.second
  pub duration_is : (d : Duration) → Memᴰ (of (span (lasts d))) ss → e.ending ≡ Ending.Lasts d
  pub no_ending : lines_named (ascii "DTEND") ss ≡ 0 → lines_named (ascii "DURATION") ss ≡ 0 → e.ending ≡ Ending.None
  -- RRULE r, by its limit, and none
  pub days_are : (r : Rule) → Memᴰ (of (repeats r)) ss → e.days ≡ r.days
  pub interval_is : (r : Rule) → Memᴰ (of (repeats r)) ss → e.interval ≡ r.interval
  pub forever : (r : Rule) → Memᴰ (of (repeats r)) ss → r.limit ≡ Limit.Forever → e.repeat ≡ Repeat.Forever
  pub count_is : (r : Rule) (n : ℕ) → Memᴰ (of (repeats r)) ss → r.limit ≡ Limit.Count n → e.repeat ≡ Repeat.Count n
  pub until_is : (r : Rule) (t : Time) → Memᴰ (of (repeats r)) ss → r.limit ≡ Limit.Until t → e.repeat ≡ Repeat.Until t.second
  pub no_rule_days : lines_named (ascii "RRULE") ss ≡ 0 → e.days ≡ 1
  pub no_rule_interval : lines_named (ascii "RRULE") ss ≡ 0 → e.interval ≡ 1
  pub no_rule_once : lines_named (ascii "RRULE") ss ≡ 0 → e.repeat ≡ Repeat.Once
  -- TRANSP:TRANSPARENT is free, whatever STATUS says, and STATUS CANCELLED is free, whatever TRANSP says; otherwise by STATUS
  pub transparent_free : Memᴰ (of (busy (transparent true))) ss → e.busy ≡ BusyType.Free
  pub cancelled_free : Memᴰ (of (busy (status Status.Cancelled))) ss → e.busy ≡ BusyType.Free
  pub tentative_so : (Memᴰ (of (busy (transparent true))) ss → ⊥) → Memᴰ (of (busy (status Status.Tentative))) ss
      → e.busy ≡ BusyType.Tentative
  pub other_busy : (Memᴰ (of (busy (transparent true))) ss → ⊥) → Memᴰ (of (busy (status Status.Other))) ss → e.busy ≡ BusyType.Busy
  pub no_status_busy : (Memᴰ (of (busy (transparent true))) ss → ⊥) → lines_named (ascii "STATUS") ss ≡ 0 → e.busy ≡ BusyType.Busy

-- the block of a VFREEBUSY
pub record BlockIs (ss : List Reading) (b : Block) : Type 0 where
  pub start_is : (s : Time) → Memᴰ (of (span (start s))) ss → b.start ≡ Some s.second
  pub no_start : lines_named (ascii "DTSTART") ss ≡ 0 → b.start ≡ None
  pub end_is : (t : Time) → Memᴰ (of (span (end t))) ss → b.end ≡ Some t.second
  pub no_end : lines_named (ascii "DTEND") ss ≡ 0 → b.end ≡ None
