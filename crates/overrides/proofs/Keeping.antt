-- The tests of refusal 10 say what the rules for the reader say: `alone_iff`, `beside_iff` and `keeps_iff`.
-- What an override that keeps them does to its master.
use Rattle.std.specs.Prelude.{None, Option, Some}
use Prim.Native.Nat.{ℕ, ◌≤◌}
use mathlib.Core.Path.{◌≡◌, refl, sym, ap, ◌∙◌}
use mathlib.Core.Bool.{Bool, true, false, not, ◌&&◌, ◌||◌}
use mathlib.Core.List.{List, Memᴰ}
use mathlib.Core.Logic.{◌↔◌}
use native.Mathlib.Omega.{arith}
use lib.ListN.{length}
use borrow.Author.Tests.{eqb-true, eq-eqb, not-true, not-false}
use Rattle.ascii.proofs.Bools.{clash, not_so, and_left, and_right, and_both, or_left, or_right, or_neither}
use Rattle.seconds.specs.Seconds.{among}
use Rattle.seconds.proofs.Seconds.{among_iff}
use Rattle.time.specs.declared.date_time.Kind.{Kind}
use Rattle.values.specs.declared.times.Time.{Time}
use Rattle.values.specs.TimeLists.{seconds_of, kind_number, same_kind}
use Rattle.time.specs.contracts.date_time.Kind.{the_type}
use denote.Enum.Bare.{sameb}
use Rattle.events.specs.Events.{kind_number as event_kind_number}
use Rattle.events.specs.declared.Event.{Event}
use Rattle.events.specs.declared.Repeat.{Repeat}
use Rattle.overrides.specs.Lists.{some, is_empty, two_or_more}
use Rattle.overrides.specs.VEvents.{VEvent, is_master, is_override, shares_uid, MasterFound, nowhere, found, master_of, Master, Override, SharesUid, FirstMaster}
use Rattle.overrides.specs.Instances.{names_instance, removed_from, moved, Replaces}
use Rattle.overrides.specs.Rules.{has_rule, other_kind, override_breaks, event_breaks, breaks_alone, masters_clash, overrides_clash, misnames, misplaced, override_misplaced, breaks_beside, breaks}
use Rattle.overrides.specs.Keeping.{OverrideAlone, KeepsAlone, FitsMaster, HasMaster, KeepsBeside, Keeps}
use Rattle.overrides.proofs.Lists.{some_iff, some_by, none_iff, empty_iff, one_iff, some_element}
use Rattle.overrides.proofs.VEvents.{master_iff, override_iff, shares_iff, first_master_iff}
use Rattle.overrides.proofs.Instances.{seconds_iff, names_iff, removed_iff, removed_gone}

-- ---- kinds and rules

kind_is : (a b : Kind) → kind_number a ≡ kind_number b → a ≡ b
unfolding kind_number
kind_is Kind.Utc Kind.Utc h = refl
kind_is Kind.Utc Kind.Floating h = absurd (omega arith)
kind_is Kind.Utc Kind.Date h = absurd (omega arith)
kind_is Kind.Floating Kind.Utc h = absurd (omega arith)
kind_is Kind.Floating Kind.Floating h = refl
kind_is Kind.Floating Kind.Date h = absurd (omega arith)
kind_is Kind.Date Kind.Utc h = absurd (omega arith)
kind_is Kind.Date Kind.Floating h = absurd (omega arith)
kind_is Kind.Date Kind.Date h = refl

pub same_kind_iff : (a b : Kind) → (same_kind a b ≡ true) ↔ (a ≡ b)
unfolding same_kind
same_kind_iff a b = (λ h. kind_is a b (eqb-true _ _ h), λ e. eq-eqb _ _ (ap kind_number e))

-- kinds have the same numbers in values and in events
pub kind_number_lem : (k : Kind) → event_kind_number k ≡ kind_number k
unfolding event_kind_number kind_number
kind_number_lem Kind.Utc = refl
kind_number_lem Kind.Floating = refl
kind_number_lem Kind.Date = refl

-- kinds are equal where their numbers are
pub kinds_equal : (a b : Kind) → sameb the_type a b ≡ same_kind a b
unfolding same_kind kind_number
kinds_equal Kind.Utc Kind.Utc = refl
kinds_equal Kind.Utc Kind.Floating = refl
kinds_equal Kind.Utc Kind.Date = refl
kinds_equal Kind.Floating Kind.Utc = refl
kinds_equal Kind.Floating Kind.Floating = refl
kinds_equal Kind.Floating Kind.Date = refl
kinds_equal Kind.Date Kind.Utc = refl
kinds_equal Kind.Date Kind.Floating = refl
kinds_equal Kind.Date Kind.Date = refl

other_kind_iff : (e : Event) (k : Kind) → (other_kind e k ≡ false) ↔ (k ≡ e.kind)
unfolding other_kind
other_kind_iff e k = (λ h. (same_kind_iff k e.kind).0 (not-false _ h), λ q. ap not ((same_kind_iff k e.kind).1 q))

no_rule_iff : (r : Repeat) → (has_rule r ≡ false) ↔ (r ≡ Repeat.Once)
unfolding has_rule
no_rule_iff Repeat.Once = (λ h. refl, λ h. refl)
no_rule_iff Repeat.Forever = (λ h. clash refl h, λ h. ap has_rule h)
no_rule_iff (Repeat.Count n) = (λ h. clash refl h, λ h. ap has_rule h)
no_rule_iff (Repeat.Until t) = (λ h. clash refl h, λ h. ap has_rule h)

pub rule_given : (r : Repeat) → (r ≡ Repeat.Once → ⊥) → has_rule r ≡ true
unfolding has_rule
rule_given Repeat.Once h = absurd (h refl)
rule_given Repeat.Forever h = refl
rule_given (Repeat.Count n) h = refl
rule_given (Repeat.Until t) h = refl

-- ---- by itself

override_alone_iff : (v : VEvent) (e : Event) → Override v → (override_breaks v e ≡ false) ↔ OverrideAlone v e
unfolding override_breaks
override_alone_iff v e o = (
  λ h.
      let a : (is_empty v.uids || two_or_more v.recurrence_ids || not (is_empty v.exceptions)) ≡ false = or_left _ (has_rule e.repeat) h in
      let b : (is_empty v.uids || two_or_more v.recurrence_ids) ≡ false = or_left _ (not (is_empty v.exceptions)) a in
      let few : length v.recurrence_ids ≤ 1 = (one_iff v.recurrence_ids).0 (or_right (is_empty v.uids) _ b) in
      let there : 1 ≤ length v.recurrence_ids = some_element v.recurrence_ids (not_so _ (λ q. o ((empty_iff v.recurrence_ids).0 q))) in
      record {
        one_recurrence_id = omega arith;
        some_uid = some_element v.uids (or_left (is_empty v.uids) _ b);
        no_rule = (no_rule_iff e.repeat).0 (or_right (is_empty v.uids || two_or_more v.recurrence_ids || not (is_empty v.exceptions)) _ h);
        no_exception = (empty_iff v.exceptions).0 (not-false _ (or_right (is_empty v.uids || two_or_more v.recurrence_ids) _ a));
      },
  λ r.
      let uid : is_empty v.uids ≡ false = not_so (is_empty v.uids) (λ (q : is_empty v.uids ≡ true). omega (arith, r.some_uid, ap length ((empty_iff v.uids).0 q))) in
      let one : two_or_more v.recurrence_ids ≡ false = (one_iff v.recurrence_ids).1 (omega (arith, r.one_recurrence_id)) in
      or_neither (or_neither (or_neither uid one) (ap not ((empty_iff v.exceptions).1 r.no_exception))) ((no_rule_iff e.repeat).1 r.no_rule),
)

-- what holds of an override, by its test
when_override : (v : VEvent) (t : Bool) → (is_override v && t) ≡ false → Override v → t ≡ false
when_override v t h o = not_so t (λ q. clash (and_both ((override_iff v).1 o) q) h)

event_keeps : (v : VEvent) (x : Option Event) → v.event ≡ x → two_or_more v.uids ≡ false → event_breaks v x ≡ false → KeepsAlone v
unfolding event_breaks
event_keeps v None q u h = clash refl h
event_keeps v (Some e) q u h =
    record {
      its_event = e;
      is_event_holds = q;
      few_uids = (one_iff v.uids).0 u;
      exceptions_kind = λ t m. (other_kind_iff e t.kind).0 ((none_iff (λ t. other_kind e t.kind) v.exceptions).0 (or_left _ (is_override v && override_breaks v e) h) t m);
      as_override = λ o. (override_alone_iff v e o).0 (when_override v _ (or_right (some (λ t. other_kind e t.kind) v.exceptions) _ h) o);
    }

keeps_event : (v : VEvent) (k : KeepsAlone v) → event_breaks v (Some k.its_event) ≡ false
unfolding event_breaks
keeps_event v k =
    or_neither ((none_iff (λ t. other_kind k.its_event t.kind) v.exceptions).1 (λ t m. (other_kind_iff k.its_event t.kind).1 (k.exceptions_kind t m)))
    (not_so _ (λ q.
    let o = (override_iff v).0 (and_left (is_override v) _ q) in
    clash (and_right (is_override v) _ q) ((override_alone_iff v k.its_event o).1 (k.as_override o))))

pub alone_iff : (v : VEvent) → (breaks_alone v ≡ false) ↔ KeepsAlone v
unfolding breaks_alone
alone_iff v = (
  λ h. event_keeps v v.event refl (or_left _ (event_breaks v v.event) h) (or_right (two_or_more v.uids) _ h),
  λ k.
      or_neither ((one_iff v.uids).1 k.few_uids)
      (ap (event_breaks v) k.is_event_holds ∙ keeps_event v k),
)

-- ---- against the master

fits_iff : (m : VEvent) (e : Event) (t : Time) → (misnames m (Some e) t.kind t.second ≡ false) ↔ FitsMaster m e t
unfolding misnames
fits_iff m e t = (
  λ h.
      let a : (other_kind e t.kind || not (names_instance e t.second)) ≡ false = or_left _ (among t.second (seconds_of m.exceptions)) h in
      record {
        same_kind = (other_kind_iff e t.kind).0 (or_left _ (not (names_instance e t.second)) a);
        names = (names_iff e t.second).0 (not-false _ (or_right (other_kind e t.kind) _ a));
        not_excluded = λ i. clash ((among_iff t.second (seconds_of m.exceptions)).1 i)
            (or_right (other_kind e t.kind || not (names_instance e t.second)) _ h);
      },
  λ f.
      or_neither (or_neither ((other_kind_iff e t.kind).1 f.same_kind) (ap not ((names_iff e t.second).1 f.names)))
      (not_so _ (λ q. f.not_excluded ((among_iff t.second (seconds_of m.exceptions)).0 q))),
)

-- asked of a master that keeps its own rules
fits_alone : (m : VEvent) (t : Time) → misplaced t.kind t.second (found m) ≡ false → (k : KeepsAlone m) → FitsMaster m k.its_event t
unfolding misplaced
fits_alone m t h k =
    let a : not (breaks_alone m) ≡ true = ap not ((alone_iff m).1 k) in
    (fits_iff m k.its_event t).0 (ap (λ (x : Option Event). misnames m x t.kind t.second) (sym k.is_event_holds) ∙ not_so _ (λ q. clash (and_both a q) h))

alone_fits : (m : VEvent) (t : Time) → ((k : KeepsAlone m) → FitsMaster m k.its_event t) → misplaced t.kind t.second (found m) ≡ false
unfolding misplaced
alone_fits m t f =
    not_so _ (λ q.
    let k = (alone_iff m).0 (not-true _ (and_left (not (breaks_alone m)) _ q)) in
    clash (and_right (not (breaks_alone m)) _ q) (ap (λ (x : Option Event). misnames m x t.kind t.second) k.is_event_holds ∙ (fits_iff m k.its_event t).1 (f k)))

placed_by : (all : List VEvent) (u : List ℕ) (t : Time) (x : MasterFound) → master_of u all ≡ x → misplaced t.kind t.second x ≡ false → HasMaster all u t
unfolding misplaced
placed_by all u t nowhere q h = clash refl h
placed_by all u t (found m) q h = record { master = m; is_first = (first_master_iff u all m).0 q; fits = fits_alone m t h }

placed_iff : (all : List VEvent) (u : List ℕ) (t : Time) → (misplaced t.kind t.second (master_of u all) ≡ false) ↔ HasMaster all u t
placed_iff all u t = (
  λ h. placed_by all u t (master_of u all) refl h,
  λ p. ap (misplaced t.kind t.second) ((first_master_iff u all p.master).1 p.is_first) ∙ alone_fits p.master t p.fits,
)

masters_iff : (all : List VEvent) (v : VEvent)
    → (override_misplaced all v ≡ false)
    ↔ ((t : Time) (u : List ℕ) → Memᴰ t v.recurrence_ids → Memᴰ u v.uids → HasMaster all u t)
unfolding override_misplaced
masters_iff all v = (
  λ h t u i j.
      (placed_iff all u t).0
      ((none_iff (λ w. misplaced t.kind t.second (master_of w all)) v.uids).0
      ((none_iff (λ x. some (λ w. misplaced x.kind x.second (master_of w all)) v.uids) v.recurrence_ids).0 h t i) u j),
  λ f.
      (none_iff (λ x. some (λ w. misplaced x.kind x.second (master_of w all)) v.uids) v.recurrence_ids).1
      (λ t i. (none_iff (λ w. misplaced t.kind t.second (master_of w all)) v.uids).1 (λ u j. (placed_iff all u t).1 (f t u i j))),
)

-- ---- clashes

masters_apart_iff : (v w : VEvent) → (masters_clash v w ≡ false) ↔ (Master v → Master w → SharesUid v w → ⊥)
unfolding masters_clash
masters_apart_iff v w = (
  λ h a b s. clash (and_both (and_both ((master_iff v).1 a) ((master_iff w).1 b)) ((shares_iff v w).1 s)) h,
  λ n.
      not_so _ (λ q.
      let a = and_left (is_master v && is_master w) _ q in
      n ((master_iff v).0 (and_left (is_master v) _ a)) ((master_iff w).0 (and_right (is_master v) _ a))
      ((shares_iff v w).0 (and_right (is_master v && is_master w) _ q))),
)

overrides_apart_iff : (v w : VEvent)
    → (overrides_clash v w ≡ false)
    ↔ (SharesUid v w → (s t : Time) → Memᴰ s v.recurrence_ids → Memᴰ t w.recurrence_ids → s.second ≡ t.second → ⊥)
unfolding overrides_clash
overrides_apart_iff v w = (
  λ h a s t i j q.
      let named : among s.second (seconds_of w.recurrence_ids) ≡ true =
      (among_iff _ (seconds_of w.recurrence_ids)).1 ((seconds_iff s.second w.recurrence_ids).1 (record { time = t; listed = j; is_second = sym q })) in
      clash (and_both ((shares_iff v w).1 a) (some_by (λ x. among x.second (seconds_of w.recurrence_ids)) i named)) h,
  λ n.
      not_so _ (λ q.
      let p = (some_iff (λ x. among x.second (seconds_of w.recurrence_ids)) v.recurrence_ids).0 (and_right (shares_uid v w) _ q) in
      let r = (seconds_iff p.which.second w.recurrence_ids).0 ((among_iff _ (seconds_of w.recurrence_ids)).0 p.passes) in
      n ((shares_iff v w).0 (and_left (shares_uid v w) _ q)) p.which r.time p.listed r.listed (sym r.is_second)),
)

pub beside_iff : (before all : List VEvent) (v : VEvent) → (breaks_beside before all v ≡ false) ↔ KeepsBeside before all v
unfolding breaks_beside
beside_iff before all v = (
  λ h.
      let a : (some (masters_clash v) before || some (overrides_clash v) before) ≡ false = or_left _ (override_misplaced all v) h in
      record {
        masters_apart = λ m w i. (masters_apart_iff v w).0 ((none_iff (masters_clash v) before).0 (or_left _ (some (overrides_clash v) before) a) w i) m;
        overrides_apart = λ w i. (overrides_apart_iff v w).0 ((none_iff (overrides_clash v) before).0 (or_right (some (masters_clash v) before) _ a) w i);
        has_master = (masters_iff all v).0 (or_right (some (masters_clash v) before || some (overrides_clash v) before) _ h);
      },
  λ k.
      or_neither
      (or_neither ((none_iff (masters_clash v) before).1 (λ w i. (masters_apart_iff v w).1 (λ m. k.masters_apart m w i)))
      ((none_iff (overrides_clash v) before).1 (λ w i. (overrides_apart_iff v w).1 (k.overrides_apart w i))))
      ((masters_iff all v).1 k.has_master),
)

pub keeps_iff : (before all : List VEvent) (v : VEvent) → (breaks before all v ≡ false) ↔ Keeps before all v
unfolding breaks
keeps_iff before all v = (
  λ h.
      record {
        alone = (alone_iff v).0 (or_left _ (breaks_beside before all v) h);
        beside = (beside_iff before all v).0 (or_right (breaks_alone v) _ h);
      },
  λ k. or_neither ((alone_iff v).1 k.alone) ((beside_iff before all v).1 k.beside),
)

-- ---- what an override does to its master

-- the second that it names is taken away, wherever the two stand
pub override_removes : {all : List VEvent} {v m : VEvent} {u : List ℕ} {t : Time}
    → Memᴰ v all → Memᴰ u v.uids → Memᴰ t v.recurrence_ids → FirstMaster u all m → among t.second (removed_from all m) ≡ true
override_removes {all} {v} {m} {u} {t} i j k f =
    (removed_iff m t.second all).1
    (moved f.is_master_holds v i (record { uid = u; of_one = f.has_uid_holds; of_other = j })
    ((seconds_iff t.second v.recurrence_ids).1 (record { time = t; listed = k; is_second = refl })))

-- of a master that keeps its own rules it names an instance, and none that starts there is left
pub override_replaces : {before all : List VEvent} {v : VEvent} {u : List ℕ} {t : Time}
    → Memᴰ v all → (i : Memᴰ t v.recurrence_ids) (j : Memᴰ u v.uids) (b : KeepsBeside before all v)
    → (k : KeepsAlone (b.has_master t u i j).master) → Replaces all (b.has_master t u i j).master k.its_event t.second
override_replaces {u = u} {t = t} l i j b k =
    let h = b.has_master t u i j in
    record {
      names = (h.fits k).names;
      gone = λ n q. removed_gone k.its_event _ n t.second q (override_removes l j i h.is_first);
    }
