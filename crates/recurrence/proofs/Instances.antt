-- Instances start one after the other, and the rule has all before one that it has;
-- how large the numbers of an event are.
use Prim.Native.Nat.{ℕ, ◌*◌, ◌≤◌, ◌<◌}
use mathlib.Core.Path.{◌≡◌, refl, sym, ap, ◌∙◌, subst}
use mathlib.Core.Bool.{Bool, true, false, not, ◌&&◌, ◌||◌}
use mathlib.Core.List.{List, [], ◌∷◌, Memᴰ}
use mathlib.Core.Logic.{◌↔◌}
use native.Mathlib.Omega.{arith}
use native.Mathlib.Nat.{mul-le-mul_right, mul-le-mul, mul-le-mul_left}
use lib.Dec.{eqb, ltb, leb}
use borrow.Author.Tests.{ltb-true, ltb-false, leb-true, leb-false, eqb-true, eqb-false, lt-ltb, le-ltb, le-leb, lt-leb, eq-eqb, ne_eqb}
use Rattle.ascii.proofs.Bools.{clash, not_so, and_left, and_right, and_both}
use Rattle.seconds.specs.Seconds.{among}
use Rattle.seconds.proofs.Seconds.{among_iff}
use Rattle.time.specs.Limits.{last_second}
use Rattle.time.specs.declared.duration.Duration.{Duration}
use Rattle.time.specs.declared.date_time.Kind.{Kind}
use Rattle.values.specs.Period.{DurationSmall}
use Rattle.events.specs.declared.Repeat.{Repeat}
use Rattle.events.specs.declared.Event.{Event}
use Rattle.events.specs.declared.Ending.{Ending}
use Rattle.events.specs.Sizes.{EventSmall, EndingSmall}
use Rattle.recurrence.specs.Instances.{utc_clock_of, clock_among, step_of, start_of, repeats, is_instance, occurs, instances_at_most, default_length, length_by, is_zero_length, end_of, HasInstance, TakesPlace}

-- two tests that follow from each other
pub each_other : (x y : Bool) → (x ≡ true → y ≡ true) → (y ≡ true → x ≡ true) → x ≡ y
each_other true y f g = sym (f refl)
each_other false y f g = sym (not_so y (λ q. clash (g q) refl))

-- ---- clocks of seconds

-- clocks compare as their seconds do
pub ltb_clock : (s t : ℕ) → ltb (utc_clock_of s) (utc_clock_of t) ≡ ltb s t
ltb_clock s t = go (ltb s t) refl
  where
    go : (x : Bool) → ltb s t ≡ x → ltb (utc_clock_of s) (utc_clock_of t) ≡ x
    go true h = lt-ltb (utc_clock_of s) (utc_clock_of t) (omega (arith, ltb-true s t h))
    go false h = le-ltb (utc_clock_of s) (utc_clock_of t) (omega (arith, ltb-false s t h))

pub leb_clock : (s t : ℕ) → leb (utc_clock_of s) (utc_clock_of t) ≡ leb s t
leb_clock s t = go (leb s t) refl
  where
    go : (x : Bool) → leb s t ≡ x → leb (utc_clock_of s) (utc_clock_of t) ≡ x
    go true h = le-leb (utc_clock_of s) (utc_clock_of t) (omega (arith, leb-true s t h))
    go false h = lt-leb (utc_clock_of s) (utc_clock_of t) (omega (arith, leb-false s t h))

pub eqb_clock : (s t : ℕ) → eqb (utc_clock_of s) (utc_clock_of t) ≡ eqb s t
eqb_clock s t = go (eqb s t) refl
  where
    go : (x : Bool) → eqb s t ≡ x → eqb (utc_clock_of s) (utc_clock_of t) ≡ x
    go true h = eq-eqb (utc_clock_of s) (utc_clock_of t) (omega (arith, eqb-true s t h))
    go false h = let n = eqb-false s t h in ne_eqb (utc_clock_of s) (utc_clock_of t) (λ (q : utc_clock_of s ≡ utc_clock_of t). n (omega (arith, q)))

-- the clock of a second is among those of others where the second is
pub clock_among_lem : (s : ℕ) (gone : List ℕ) → clock_among (utc_clock_of s) gone ≡ among s gone
unfolding clock_among among
clock_among_lem s [] = refl
clock_among_lem s (t ∷ ts) = ap (λ (x : Bool). x || clock_among (utc_clock_of s) ts) (eqb_clock s t) ∙ ap (λ (x : Bool). eqb s t || x) (clock_among_lem s ts)

-- the second whose clock is among those of a list
record ClockFound (x : ℕ) (gone : List ℕ) : Type 0 where
  second : ℕ
  listed : Memᴰ second gone
  is_clock : x ≡ utc_clock_of second

clock_found : (x : ℕ) (gone : List ℕ) → clock_among x gone ≡ true → ClockFound x gone
unfolding clock_among
clock_found x [] h = clash h refl
clock_found x (t ∷ ts) h = go (eqb x (utc_clock_of t)) refl h (clock_found x ts)
  where
    go : (y : Bool) → eqb x (utc_clock_of t) ≡ y → (y || clock_among x ts) ≡ true → (clock_among x ts ≡ true → ClockFound x ts) → ClockFound x (t ∷ ts)
    go true q g r = record { second = t; listed = Memᴰ.head refl; is_clock = eqb-true x _ q }
    go false q g r = let f = r g in record { second = f.second; listed = Memᴰ.tail f.listed; is_clock = f.is_clock }

-- lists of the same seconds have the same clocks
clocks_same : (g h : List ℕ) → ((x : ℕ) → among x g ≡ among x h) → (x : ℕ) → clock_among x g ≡ clock_among x h
clocks_same g h s x = each_other _ _ (λ q. kept g h s (clock_found x g q)) (λ q. kept h g (λ y. sym (s y)) (clock_found x h q))
  where
    kept : (g h : List ℕ) → ((y : ℕ) → among y g ≡ among y h) → ClockFound x g → clock_among x h ≡ true
    kept g h s f =
        ap (λ (y : ℕ). clock_among y h) f.is_clock ∙ clock_among_lem f.second h ∙ sym (s f.second) ∙ (among_iff f.second g).1 f.listed

-- ---- which instances there are

pub starts_rise : (e : Event) {j k : ℕ} → j ≤ k → start_of e j ≤ start_of e k
unfolding start_of
starts_rise e {j} {k} p = let m : j * step_of e ≤ k * step_of e = mul-le-mul_right (step_of e) p in omega arith

repeats_before : (r : Repeat) (s t j k : ℕ) → s ≤ t → j ≤ k → repeats r t k ≡ true → repeats r s j ≡ true
unfolding repeats
repeats_before Repeat.Once s t j k p q h = eq-eqb j 0 (omega (arith, eqb-true k 0 h))
repeats_before Repeat.Forever s t j k p q h = refl
repeats_before (Repeat.Count n) s t j k p q h = lt-ltb j n (omega (arith, ltb-true k n h))
repeats_before (Repeat.Until u) s t j k p q h = le-leb s _ (omega (arith, leb-true t (utc_clock_of u) h))

-- the rule has every instance before one that it has
pub instance_before : (e : Event) (j k : ℕ) → j ≤ k → is_instance e k ≡ true → is_instance e j ≡ true
unfolding is_instance
instance_before e j k p h = repeats_before e.repeat (start_of e j) (start_of e k) j k (starts_rise e p) p h

-- only the rule's instances stand
pub occurs_instance : (e : Event) (gone : List ℕ) (k : ℕ) → occurs e gone k ≡ true → is_instance e k ≡ true
unfolding occurs
occurs_instance e gone k h = and_left (is_instance e k) (not (clock_among (start_of e k) gone)) h

-- lists of the same seconds take the same instances away: every start is the clock of a second
pub occurs_same : (e : Event) (g h : List ℕ) → ((x : ℕ) → among x g ≡ among x h) → (k : ℕ) → occurs e g k ≡ occurs e h k
unfolding occurs
occurs_same e g h s k = ap (λ (t : Bool). is_instance e k && not t) (clocks_same g h s (start_of e k))

-- where the rule has no instance k, none from k on stands
pub none_stands : (e : Event) (gone : List ℕ) (k : ℕ) → is_instance e k ≡ false → (j : ℕ) → k ≤ j → occurs e gone j ≡ false
none_stands e gone k h j p = not_so _ (λ q. clash (instance_before e k j p (occurs_instance e gone j q)) h)

-- ---- how large the numbers of an event are

pub days_small : {e : Event} → EventSmall e → e.days * e.interval ≤ 6993
days_small h = mul-le-mul h.few_days h.few_interval

pub step_small : {e : Event} → EventSmall e → step_of e ≤ 604195200
unfolding step_of
step_small h = omega (arith, days_small h)

-- a step is a day at least
pub step_long : {e : Event} → EventSmall e → 86400 ≤ step_of e
unfolding step_of
step_long {e} h = let p : 1 * 1 ≤ e.days * e.interval = mul-le-mul h.some_days h.some_interval in omega arith

pub steps_small : {e : Event} {k d : ℕ} → EventSmall e → k ≤ 100000 → d ≡ step_of e → k * d ≤ 60419520000000
steps_small {d = d} h p q = let s : d ≤ 604195200 = omega (arith, step_small h, q) in mul-le-mul p s

pub start_small : {e : Event} {k : ℕ} → EventSmall e → k ≤ 100000 → start_of e k ≤ utc_clock_of 60423622444799
unfolding start_of
start_small {e} {k} h p = omega (arith, steps_small {k = k} {d = step_of e} h p refl, h.start_small)

-- k starts take k days at least
pub starts_long : {e : Event} (k : ℕ) → EventSmall e → utc_clock_of (k * 86400) ≤ start_of e k
unfolding start_of
starts_long {e} k h = let p : k * 86400 ≤ k * step_of e = mul-le-mul_left k (step_long h) in omega arith

-- so one that starts by 2099 is one of so many
pub starts_few : {e : Event} (k : ℕ) → EventSmall e → start_of e k ≤ utc_clock_of last_second → k < instances_at_most
starts_few k h p = omega (arith, starts_long k h)

-- the ending of an event that is small, by its case
ending_by_lem : {e : Event} {x : Ending} → EventSmall e → e.ending ≡ x → EndingSmall e.start x
ending_by_lem {e} h p = subst (EndingSmall e.start) p h.ending_small

pub ends_by : {e : Event} {t : ℕ} → EventSmall e → e.ending ≡ Ending.End t → (e.start < t) × (t ≤ last_second)
ends_by h p = ending_by_lem h p

pub lasts_by : {e : Event} {d : Duration} → EventSmall e → e.ending ≡ Ending.Lasts d → DurationSmall d
lasts_by h p = ending_by_lem h p

default_small : (kind : Kind) → default_length kind ≤ 86400
unfolding default_length
default_small Kind.Utc = omega arith
default_small Kind.Floating = omega arith
default_small Kind.Date = omega arith

length_by_small : {e : Event} → EventSmall e → (x : Ending) → e.ending ≡ x → length_by e x ≤ last_second
unfolding length_by
length_by_small h (Ending.End t) p = omega (arith, (ends_by h p).1)
length_by_small h (Ending.Lasts d) p = omega (arith, (lasts_by h p).limited)
length_by_small {e} h Ending.None p = omega (arith, default_small e.kind)

pub length_small : {e : Event} → EventSmall e → length_by e e.ending ≤ last_second
length_small h = length_by_small h _ refl

-- ---- when an instance ends

-- of zero length, where it starts
pub zero_length_end : (e : Event) (k : ℕ) → is_zero_length e ≡ true → end_of e k ≡ start_of e k
unfolding is_zero_length end_of
zero_length_end e k h = omega (arith, eqb-true (length_by e e.ending) 0 h)

-- ---- which instances there are, for the reader

has_iff : (r : Repeat) (s k : ℕ) → (repeats r s k ≡ true) ↔ HasInstance r s k
unfolding repeats
has_iff Repeat.Once s k = (λ e. eqb-true k 0 e, λ h. eq-eqb k 0 h)
has_iff Repeat.Forever s k = (λ e. tt, λ h. refl)
has_iff (Repeat.Count n) s k = (λ e. ltb-true k n e, λ h. lt-ltb k n h)
has_iff (Repeat.Until t) s k = (λ e. leb-true s _ e, λ h. le-leb s _ h)

not_among : (x : ℕ) (gone : List ℕ) → (not (clock_among x gone) ≡ true) ↔ ((t : ℕ) → Memᴰ t gone → x ≡ utc_clock_of t → ⊥)
not_among x gone = (
  λ h t m q. clash h (ap not (ap (λ (y : ℕ). clock_among y gone) q ∙ clock_among_lem t gone ∙ (among_iff t gone).1 m)),
  λ n. ap not (not_so (clock_among x gone) (λ q. let f = clock_found x gone q in n f.second f.listed f.is_clock)),
)

pub takes_place_iff : (e : Event) (gone : List ℕ) (k : ℕ) → (occurs e gone k ≡ true) ↔ TakesPlace e gone k
unfolding occurs is_instance
takes_place_iff e gone k = (
  λ h.
      record {
        by_rule_holds = (has_iff e.repeat (start_of e k) k).0 (and_left (repeats e.repeat (start_of e k) k) _ h);
        not_gone = (not_among (start_of e k) gone).0 (and_right (repeats e.repeat (start_of e k) k) _ h);
      },
  λ i. and_both ((has_iff e.repeat (start_of e k) k).1 i.by_rule_holds) ((not_among (start_of e k) gone).1 i.not_gone),
)
