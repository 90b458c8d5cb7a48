-- What the lines directly in a component say together: each property once, and whether one stands twice that may not.
use Rattle.std.specs.Prelude.{Bool, false, ◌||◌, List, [], ◌∷◌, None, Some, is_some}
use Rattle.property.specs.Facts.{Reading, unread, fault, of, span, repeats, busy, identity, periods, start, end, lasts, status, transparent}
use Rattle.events.specs.declared.ComponentProperties.{ComponentProperties}
use Rattle.events.specs.declared.SpanProperties.{SpanProperties}
use Rattle.events.specs.declared.BusyProperties.{BusyProperties}

unfoldable pub no_properties : ComponentProperties
no_properties =
    record {
      repeated = false;
      span = record { start = None; end = None; lasts = None };
      repeats = None;
      busy = record { status = None; transparency = None };
    }

-- a line more of one group; was its property there before?
unfoldable pub with_span : ComponentProperties → Bool → SpanProperties → ComponentProperties
with_span g again x = record { repeated = g.repeated || again; span = x; repeats = g.repeats; busy = g.busy }

unfoldable pub with_busy : ComponentProperties → Bool → BusyProperties → ComponentProperties
with_busy g again x = record { repeated = g.repeated || again; span = g.span; repeats = g.repeats; busy = x }

-- one line more; no more than one may stand of DTSTART, DTEND, DURATION, RRULE, STATUS, TRANSP.
-- What ties a VEVENT to others (UID, RECURRENCE-ID, EXDATE) is no part of its event: its rules are stated beside the event
unfoldable pub with_property : ComponentProperties → Reading → ComponentProperties
with_property g unread = g
with_property g (fault f) = g
with_property g (of (span (start t))) =
    with_span g (is_some g.span.start) (record { start = Some t; end = g.span.end; lasts = g.span.lasts })
with_property g (of (span (end t))) =
    with_span g (is_some g.span.end) (record { start = g.span.start; end = Some t; lasts = g.span.lasts })
with_property g (of (span (lasts d))) =
    with_span g (is_some g.span.lasts) (record { start = g.span.start; end = g.span.end; lasts = Some d })
with_property g (of (repeats r)) =
    record { repeated = g.repeated || is_some g.repeats; span = g.span; repeats = Some r; busy = g.busy }
with_property g (of (busy (status s))) =
    with_busy g (is_some g.busy.status) (record { status = Some s; transparency = g.busy.transparency })
with_property g (of (busy (transparent t))) =
    with_busy g (is_some g.busy.transparency) (record { status = g.busy.status; transparency = Some t })
with_property g (of (identity f)) = g
with_property g (of (periods b)) = g

unfoldable pub with_properties : ComponentProperties → List Reading → ComponentProperties
with_properties g [] = g
with_properties g (s ∷ ss) = with_properties (with_property g s) ss
