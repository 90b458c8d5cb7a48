-- What one line says, in the words of the definitions: no rule reads it, or it has a fault, or it states a fact of its component.
-- The code's `PropertyValue` says the same in one flat enum; only contracts of the code that reads a line name it, by `reading_of`.
use Rattle.std.specs.Prelude.{Bool, Err, Ok, Result}
use Rattle.values.specs.declared.rule.ValueError.{ValueError}
use Rattle.property.specs.declared.PropertyValue.{PropertyValue}
use Rattle.time.specs.declared.duration.Duration.{Duration}
use Rattle.periods.specs.declared.BusyType.{BusyType}
use Rattle.values.specs.declared.times.Form.{Form}
use Rattle.values.specs.declared.times.Time.{Time}
use Rattle.values.specs.declared.rule.Rule.{Rule}
use Rattle.property.specs.declared.Status.{Status}

-- when a component takes place: DTSTART, DTEND, DURATION
pub data SpanFact : Type 0 where
  start : Time → SpanFact
  end : Time → SpanFact
  lasts : Duration → SpanFact

-- what a VEVENT counts for: STATUS, and is TRANSP the word TRANSPARENT?
pub data BusyFact : Type 0 where
  status : Status → BusyFact
  transparent : Bool → BusyFact

-- what ties a VEVENT to others: UID, RECURRENCE-ID, EXDATE with times of this form; the bytes and the times stand in the line
pub data IdentityFact : Type 0 where
  uid : IdentityFact
  recurrence_id : Time → IdentityFact
  exceptions : Form → IdentityFact

-- those, RRULE, and FREEBUSY with periods of this type, which stand in the line
pub data Fact : Type 0 where
  span : SpanFact → Fact
  repeats : Rule → Fact
  busy : BusyFact → Fact
  identity : IdentityFact → Fact
  periods : BusyType → Fact

-- refusals 8 and 9
pub data ValueFault : Type 0 where
  unsupported : ValueFault
  bad : ValueFault

pub data Reading : Type 0 where
  unread : Reading
  fault : ValueFault → Reading
  of : Fact → Reading

-- what the code answers, so said
unfoldable pub reading_of : Result PropertyValue ValueError → Reading
reading_of (Ok PropertyValue.Nothing) = unread
reading_of (Err ValueError.Unsupported) = fault unsupported
reading_of (Err ValueError.Bad) = fault bad
reading_of (Ok (PropertyValue.Start t)) = of (span (start t))
reading_of (Ok (PropertyValue.End t)) = of (span (end t))
reading_of (Ok (PropertyValue.Lasts d)) = of (span (lasts d))
reading_of (Ok (PropertyValue.Repeats r)) = of (repeats r)
reading_of (Ok (PropertyValue.HasStatus s)) = of (busy (status s))
reading_of (Ok (PropertyValue.Transparent b)) = of (busy (transparent b))
reading_of (Ok PropertyValue.Uid) = of (identity uid)
reading_of (Ok (PropertyValue.RecurrenceId t)) = of (identity (recurrence_id t))
reading_of (Ok (PropertyValue.HasExceptions f)) = of (identity (exceptions f))
reading_of (Ok (PropertyValue.HasPeriods b)) = of (periods b)

-- and what it answers of a time, where this is the fact that the time states
unfoldable pub time_reading : (Time → Fact) → Result Time ValueError → Reading
time_reading f (Ok t) = of (f t)
time_reading f (Err ValueError.Unsupported) = fault unsupported
time_reading f (Err ValueError.Bad) = fault bad
