-- An event and a block that are read are small, where what their lines say is.
use Rattle.std.specs.Prelude.{None, Option, Some}
use Prim.Native.Nat.{ℕ, ◌≤◌}
use Rattle.values.specs.declared.rule.Rule.{Rule}
use Rattle.time.specs.declared.duration.Duration.{Duration}
use mathlib.Core.Path.{◌≡◌, refl, subst}
use mathlib.Core.Bool.{Bool, true, false, cond}
use mathlib.Core.List.{List}
use native.Mathlib.Omega.{arith}
use Rattle.time.specs.Limits.{last_second}
use Rattle.values.specs.Rule.{LimitSmall}
use Rattle.values.specs.declared.times.Time.{Time}
use Rattle.values.specs.declared.rule.Limit.{Limit}
use Rattle.property.specs.Facts.{Reading}
use Rattle.events.specs.ComponentProperties.{no_properties, with_properties}
use Rattle.events.specs.Events.{ending_by, limit_by, repeat_by, days_by, interval_by, event_made, event_with, event_from, event_by}
use Rattle.events.specs.Sizes.{EndingSmall, RepeatSmall, EventSmall}
use Rattle.events.specs.declared.Ending.{Ending}
use Rattle.events.specs.declared.Repeat.{Repeat}
use Rattle.events.specs.declared.Event.{Event}
use Rattle.events.specs.declared.ComponentProperties.{ComponentProperties}
use Rattle.events.proofs.ComponentRules.{ending_broken, end_fits_of, end_of_fits, duration_fits_of, duration_of_fits, until_fits_of, until_of_fits}
use Rattle.events.proofs.ComponentPropertiesLaws.{TimeSmall, LastsSmall, RepeatsSmall, ComponentPropertiesSmall, nothing_small, AllSmall, with_properties_small}

-- ---- the ending and the limit

ending_small : (s : Time) (e : Option Time) (d : Option Duration) (x : Ending) → TimeSmall e → LastsSmall d → ending_by s e d ≡ Some x
    → EndingSmall s.second x
unfolding ending_by
ending_small s None None x h k q = let z : Ending.None ≡ x = cc in rw (← z) tt
ending_small s (Some e) None x h k q =
    let fits = end_fits_of s e x q in
    let read = end_of_fits s e fits in
    let z : Ending.End e.second ≡ x = cc in
    rw (← z) (fits.later, h)
ending_small s None (Some d) x h k q =
    let read = duration_of_fits s d (duration_fits_of s d x q) in
    let z : Ending.Lasts d ≡ x = cc in
    rw (← z) k
ending_small s (Some e) (Some d) x h k q = ending_broken q

limit_small : (s : Time) (l : Limit) (x : Repeat) → LimitSmall l → limit_by s l ≡ Some x → RepeatSmall s.second x
unfolding limit_by
limit_small s Limit.Forever x h q = let z : Repeat.Forever ≡ x = cc in rw (← z) tt
limit_small s (Limit.Count n) x h q = let z : Repeat.Count n ≡ x = cc in rw (← z) h
limit_small s (Limit.Until u) x h q =
    let fits = until_fits_of s u x q in
    let read = until_of_fits s u fits in
    let z : Repeat.Until u.second ≡ x = cc in
    rw (← z) (fits.not_before, h)

repeat_small : (s : Time) (g : Option Rule) (x : Repeat) → RepeatsSmall g → repeat_by s g ≡ Some x → RepeatSmall s.second x
unfolding repeat_by
repeat_small s None x h q = let z : Repeat.Once ≡ x = cc in rw (← z) tt
repeat_small s (Some r) x h q = limit_small s r.limit x h.limit_small q

days_small : (g : Option Rule) → RepeatsSmall g → (1 ≤ days_by g) × (days_by g ≤ 7)
unfolding days_by
days_small None h = (omega arith, omega arith)
days_small (Some r) h = (h.some_days, h.few_days)

interval_small : (g : Option Rule) → RepeatsSmall g → (1 ≤ interval_by g) × (interval_by g ≤ 999)
unfolding interval_by
interval_small None h = (omega arith, omega arith)
interval_small (Some r) h = (h.some_interval, h.few_interval)

-- ---- the event

made_small : (s : Time) (g : ComponentProperties) (x : Ending) (y : Repeat) → s.second ≤ last_second → ComponentPropertiesSmall g → EndingSmall s.second x
    → RepeatSmall s.second y → EventSmall (event_made s g x y)
unfolding event_made
made_small s g x y h r k m =
    record {
      start_small = h;
      some_days = (days_small g.repeats r.repeats_small).0;
      few_days = (days_small g.repeats r.repeats_small).1;
      some_interval = (interval_small g.repeats r.repeats_small).0;
      few_interval = (interval_small g.repeats r.repeats_small).1;
      ending_small = k;
      repeat_small = m;
    }

with_event_small : (s : Time) (g : ComponentProperties) (a : Option Ending) (b : Option Repeat) (e : Event) → s.second ≤ last_second → ComponentPropertiesSmall g
    → ((x : Ending) → a ≡ Some x → EndingSmall s.second x) → ((y : Repeat) → b ≡ Some y → RepeatSmall s.second y)
    → event_with s g a b ≡ Some e → EventSmall e
unfolding event_with
with_event_small s g (Some x) (Some y) e h r k m q =
    let z : event_made s g x y ≡ e = cc in
    subst EventSmall z (made_small s g x y h r (k x refl) (m y refl))
with_event_small s g (Some x) None e h r k m q = let z : ◌≡◌ {A = ℕ} 0 1 = cc in absurd (omega arith)
with_event_small s g None b e h r k m q = let z : ◌≡◌ {A = ℕ} 0 1 = cc in absurd (omega arith)

from_small : (t : Option Time) (g : ComponentProperties) (e : Event) → TimeSmall t → ComponentPropertiesSmall g → event_from t g ≡ Some e → EventSmall e
unfolding event_from
from_small None g e h r q = let z : ◌≡◌ {A = ℕ} 0 1 = cc in absurd (omega arith)
from_small (Some s) g e h r q =
    with_event_small s g (ending_by s g.span.end g.span.lasts) (repeat_by s g.repeats) e h r
    (λ x. ending_small s g.span.end g.span.lasts x r.end_small r.lasts_small)
    (λ y. repeat_small s g.repeats y r.repeats_small)
    q

event_by_small : (g : ComponentProperties) (e : Event) → ComponentPropertiesSmall g → event_by g ≡ Some e → EventSmall e
unfolding event_by
event_by_small g e r q = go g.repeated q
  where
    go : (t : Bool) → cond t None (event_from g.span.start g) ≡ Some e → EventSmall e
    go true k = let z : ◌≡◌ {A = ℕ} 0 1 = cc in absurd (omega arith)
    go false k = from_small g.span.start g e r.start_small r k

pub event_small : (ss : List Reading) (e : Event) → AllSmall ss → event_by (with_properties no_properties ss) ≡ Some e → EventSmall e
event_small ss e h q = event_by_small _ e (with_properties_small ss no_properties nothing_small h) q

-- ---- the block
