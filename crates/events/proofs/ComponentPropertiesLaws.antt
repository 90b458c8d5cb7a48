-- What lines say together is small, where what each of them says is.
use Rattle.std.specs.Prelude.{None, Option, Some}
use Prim.Native.Nat.{◌≤◌}
use Rattle.values.specs.declared.times.Time.{Time}
use Rattle.values.specs.declared.rule.Rule.{Rule}
use Rattle.time.specs.declared.duration.Duration.{Duration}
use mathlib.Core.List.{List, [], ◌∷◌}
use Rattle.time.specs.Limits.{last_second}
use Rattle.values.specs.Period.{DurationSmall}
use Rattle.values.specs.Rule.{RuleSmall}
use Rattle.property.specs.Properties.{PropertyValueSmall}
use Rattle.property.specs.Facts.{Reading, unread, fault, of, span, repeats, busy, identity, periods, start, end, lasts, status, transparent}
use Rattle.events.specs.ComponentProperties.{no_properties, with_span, with_busy, with_property, with_properties}
use Rattle.events.specs.declared.ComponentProperties.{ComponentProperties}

abbrev pub TimeSmall : Option Time → Type 0
TimeSmall (Some t) = t.second ≤ last_second
TimeSmall None = Unit {0}

abbrev pub LastsSmall : Option Duration → Type 0
LastsSmall (Some d) = DurationSmall d
LastsSmall None = Unit {0}

abbrev pub RepeatsSmall : Option Rule → Type 0
RepeatsSmall (Some r) = RuleSmall r
RepeatsSmall None = Unit {0}

pub record ComponentPropertiesSmall (g : ComponentProperties) : Type 0 where
  pub start_small : TimeSmall g.span.start
  pub end_small : TimeSmall g.span.end
  pub lasts_small : LastsSmall g.span.lasts
  pub repeats_small : RepeatsSmall g.repeats

pub nothing_small : ComponentPropertiesSmall no_properties
unfolding no_properties
nothing_small = record { start_small = tt; end_small = tt; lasts_small = tt; repeats_small = tt }

with_small : (g : ComponentProperties) (x : Reading) → ComponentPropertiesSmall g → PropertyValueSmall x → ComponentPropertiesSmall (with_property g x)
unfolding with_property with_span with_busy
with_small g unread r h = r
with_small g (fault f) r h = r
with_small g (of (span (start t))) r h =
    record { start_small = h; end_small = r.end_small; lasts_small = r.lasts_small; repeats_small = r.repeats_small }
with_small g (of (span (end t))) r h =
    record { start_small = r.start_small; end_small = h; lasts_small = r.lasts_small; repeats_small = r.repeats_small }
with_small g (of (span (lasts d))) r h =
    record { start_small = r.start_small; end_small = r.end_small; lasts_small = h; repeats_small = r.repeats_small }
with_small g (of (repeats x)) r h =
    record { start_small = r.start_small; end_small = r.end_small; lasts_small = r.lasts_small; repeats_small = h }
with_small g (of (busy (status x))) r h =
    record { start_small = r.start_small; end_small = r.end_small; lasts_small = r.lasts_small; repeats_small = r.repeats_small }
with_small g (of (busy (transparent x))) r h =
    record { start_small = r.start_small; end_small = r.end_small; lasts_small = r.lasts_small; repeats_small = r.repeats_small }
with_small g (of (identity f)) r h = r
with_small g (of (periods b)) r h = r

-- each line says something small
pub data AllSmall : List Reading → Type 0 where
  none : AllSmall []
  then : {x : Reading} {ss : List Reading} → PropertyValueSmall x → AllSmall ss → AllSmall (x ∷ ss)

pub with_properties_small : (ss : List Reading) (g : ComponentProperties) → ComponentPropertiesSmall g → AllSmall ss → ComponentPropertiesSmall (with_properties g ss)
unfolding with_properties
with_properties_small [] g r AllSmall.none = r
with_properties_small (x ∷ ss) g r (AllSmall.then h k) = with_properties_small ss (with_property g x) (with_small g x r h) k
