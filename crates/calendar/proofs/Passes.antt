-- THE LAW of the two passes: the first component that breaks a rule is the first before any that is broken by itself
-- which is broken beside others, else that one. Then the same from component to component.
use Rattle.std.specs.Prelude.{None, Option, Some}
use Prim.Native.Nat.{ℕ}
use Rattle.events.specs.declared.Event.{Event}
use Rattle.events.specs.declared.Block.{Block}
use mathlib.Core.Path.{◌≡◌, refl, sym, ap, subst, ◌∙◌}
use mathlib.Core.Bool.{Bool, true, false, cond, ◌||◌}
use mathlib.Core.List.Memᴰ
use mathlib.Core.List.{List, [], ◌∷◌, ◌++◌, append_assoc, append-nil, Memᴰ}
use mathlib.Core.Logic.{◌↔◌}
use native.Mathlib.Omega.{arith}
use Rattle.ascii.proofs.Bools.{or_left, or_right, or_neither, or_by_left, or_by_right}
use Rattle.values.specs.declared.times.Context.{Context}
use Rattle.property.specs.declared.Scope.{Scope}
use Rattle.nesting.specs.Components.{Component}
use Rattle.overrides.specs.Lists.{two_or_more}
use Rattle.overrides.specs.VEvents.{VEvent}
use Rattle.overrides.specs.Rules.{event_breaks, breaks_alone, breaks_beside, breaks, RuleLine, all_keep, broken_at, first_broken, broken_line}
use Rattle.calendar.specs.Checks.{rule_else}
use Rattle.calendar.specs.Identities.{identity_of}
use Rattle.calendar.specs.Meaning.{component_scope, event_of, block_of, vevent_of, vevents_as, vevents, block_broken, breaks_rule, broken_or, first_fault, rule_fault}
use Rattle.calendar.specs.Passes.{broken_alone, alone_fault, before_alone, broken_beside, beside_fault}
use Rattle.calendar.proofs.VEvents.{vevents_event, vevents_none}

-- ---- one component

or_nothing : (b : Bool) → b ≡ (b || false)
or_nothing true = refl
or_nothing false = refl

-- it breaks a rule by itself or beside others
pub breaks_either : (c : Context) (before all : List VEvent) (s : Scope) (k : Component)
    → breaks_rule c before all s k ≡ (broken_alone c s k || broken_beside c before all s k)
unfolding breaks_rule broken_alone broken_beside breaks
breaks_either c before all Scope.Event k = refl
breaks_either c before all Scope.FreeBusy k = or_nothing (block_broken (block_of c k))
breaks_either c before all Scope.Other k = refl

module _ (c : Context) (k : Component) where
  -- by itself: a VEVENT by its UIDs and by how its event was read
  pub event_alone : {r : Option Event} → component_scope k ≡ Scope.Event → event_of c k ≡ r
      → broken_alone c (component_scope k) k ≡ (two_or_more (identity_of c k).uids || event_breaks (vevent_of c k) r)
  unfolding broken_alone breaks_alone vevent_of
  event_alone e q =
      ap (λ (s : Scope). broken_alone c s k) e
      ∙ ap (λ (x : Option Event). two_or_more (identity_of c k).uids || event_breaks (vevent_of c k) x) q

  -- a VFREEBUSY by how it was read
  pub block_alone : {r : Option Block} → component_scope k ≡ Scope.FreeBusy → block_of c k ≡ r → broken_alone c (component_scope k) k ≡ block_broken r
  unfolding broken_alone
  block_alone e q = ap (λ (s : Scope). broken_alone c s k) e ∙ ap block_broken q

  -- any other never
  pub other_alone : component_scope k ≡ Scope.Other → broken_alone c (component_scope k) k ≡ false
  unfolding broken_alone
  other_alone e = ap (λ (s : Scope). broken_alone c s k) e

  module _ (before all : List VEvent) where
    -- beside others: a VEVENT as such
    pub event_beside : component_scope k ≡ Scope.Event → broken_beside c before all (component_scope k) k ≡ breaks_beside before all (vevent_of c k)
    unfolding broken_beside
    event_beside e = ap (λ (s : Scope). broken_beside c before all s k) e

    -- any other never
    pub none_beside : (component_scope k ≡ Scope.Event → ⊥) → broken_beside c before all (component_scope k) k ≡ false
    unfolding broken_beside
    none_beside n = go (component_scope k) refl
      where
        go : (s : Scope) → component_scope k ≡ s → broken_beside c before all s k ≡ false
        go Scope.Event e = absurd (n e)
        go Scope.FreeBusy e = refl
        go Scope.Other e = refl

-- ---- from component to component: k stands behind the VEVENTs `before`, and ks are left

module _ (c : Context) (before all : List VEvent) (k : Component) (ks : List Component) where
  -- it breaks no rule, so what is left tells
  pub first_kept : broken_alone c (component_scope k) k ≡ false → broken_beside c before all (component_scope k) k ≡ false
      → first_fault c before all (k ∷ ks) ≡ first_fault c (before ++ vevents_as c (component_scope k) k) all ks
  unfolding first_fault broken_or
  first_kept a b =
      ap (λ (t : Bool). broken_or t k.begin.number (first_fault c (before ++ vevents_as c (component_scope k) k) all ks))
      (breaks_either c before all (component_scope k) k ∙ or_neither a b)

  -- it breaks one, so it is the first
  first_broken_holds : breaks_rule c before all (component_scope k) k ≡ true → first_fault c before all (k ∷ ks) ≡ Some k.begin.number
  unfolding first_fault broken_or
  first_broken_holds h = ap (λ (t : Bool). broken_or t k.begin.number (first_fault c (before ++ vevents_as c (component_scope k) k) all ks)) h

  pub first_alone : broken_alone c (component_scope k) k ≡ true → first_fault c before all (k ∷ ks) ≡ Some k.begin.number
  first_alone a = first_broken_holds (breaks_either c before all (component_scope k) k ∙ or_by_left _ a)

  pub first_beside : broken_beside c before all (component_scope k) k ≡ true → first_fault c before all (k ∷ ks) ≡ Some k.begin.number
  first_beside b = first_broken_holds (breaks_either c before all (component_scope k) k ∙ or_by_right (broken_alone c (component_scope k) k) b)

  -- the same for a VEVENT, by its own tests
  pub first_event_kept : component_scope k ≡ Scope.Event → broken_alone c (component_scope k) k ≡ false → breaks_beside before all (vevent_of c k) ≡ false
      → first_fault c before all (k ∷ ks) ≡ first_fault c (before ++ (vevent_of c k ∷ [])) all ks
  first_event_kept e a b =
      first_kept a (event_beside c k before all e ∙ b)
      ∙ ap (λ (l : List VEvent). first_fault c (before ++ l) all ks) (vevents_event c k e)

  pub first_event_broken : component_scope k ≡ Scope.Event → breaks_beside before all (vevent_of c k) ≡ true
      → first_fault c before all (k ∷ ks) ≡ Some k.begin.number
  first_event_broken e b = first_beside (event_beside c k before all e ∙ b)

  -- what is no VEVENT is passed over, if it is not broken by itself
  pub first_passed : (component_scope k ≡ Scope.Event → ⊥) → broken_alone c (component_scope k) k ≡ false
      → first_fault c before all (k ∷ ks) ≡ first_fault c before all ks
  first_passed n a =
      first_kept a (none_beside c k before all n)
      ∙ ap (λ (l : List VEvent). first_fault c l all ks) (ap (λ (l : List VEvent). before ++ l) (vevents_none c k n) ∙ append-nil before)

-- ---- both passes

rule_last : (r : Option ℕ) → rule_else r None ≡ r
unfolding rule_else
rule_last None = refl
rule_last (Some n) = refl

rules_passed : (r q : Option ℕ) → rule_else r q ≡ None → (r ≡ None) × (q ≡ None)
unfolding rule_else
rules_passed None q h = (refl, h)
rules_passed (Some n) q h = let z : ◌≡◌ {A = ℕ} 0 1 = cc in absurd (omega arith)

not_broken : (t : Bool) (n : ℕ) (r : Option ℕ) → broken_or t n r ≡ None → (t ≡ false) × (r ≡ None)
unfolding broken_or
not_broken true n r h = let z : ◌≡◌ {A = ℕ} 0 1 = cc in absurd (omega arith)
not_broken false n r h = (refl, h)

pub two_passes : (c : Context) (before all : List VEvent) (ks : List Component)
    → first_fault c before all ks ≡ rule_else (beside_fault c before all (before_alone c ks)) (alone_fault c ks)
unfolding first_fault beside_fault before_alone alone_fault broken_or rule_else
two_passes c before all [] = refl
two_passes c before all (k ∷ ks) =
    go (broken_alone c (component_scope k) k) (broken_beside c before all (component_scope k) k) refl refl (two_passes c (before ++ vevents_as c (component_scope k) k) all ks)
  where
    next : List VEvent
    next = before ++ vevents_as c (component_scope k) k

    go : (a b : Bool) → broken_alone c (component_scope k) k ≡ a → broken_beside c before all (component_scope k) k ≡ b
        → first_fault c next all ks ≡ rule_else (beside_fault c next all (before_alone c ks)) (alone_fault c ks)
        → first_fault c before all (k ∷ ks)
        ≡ rule_else (beside_fault c before all (cond a [] (k ∷ before_alone c ks))) (broken_or a k.begin.number (alone_fault c ks))
    go true b p q ih = first_alone c before all k ks p
    go false true p q ih =
        first_beside c before all k ks q
        ∙ sym (ap (λ (t : Bool). rule_else (broken_or t k.begin.number (beside_fault c next all (before_alone c ks))) (alone_fault c ks)) q)
    go false false p q ih =
        first_kept c before all k ks p q
        ∙ ih
        ∙ sym (ap (λ (t : Bool). rule_else (broken_or t k.begin.number (beside_fault c next all (before_alone c ks))) (alone_fault c ks)) q)

-- of a whole file
pub two_passes_whole : (c : Context) (ks : List Component)
    → rule_fault c ks ≡ rule_else (beside_fault c [] (vevents c ks) (before_alone c ks)) (alone_fault c ks)
unfolding rule_fault
two_passes_whole c ks = two_passes c [] (vevents c ks) ks

-- ---- where none is broken by itself

before_all : (c : Context) (ks : List Component) → alone_fault c ks ≡ None → before_alone c ks ≡ ks
unfolding alone_fault before_alone
before_all c [] h = refl
before_all c (k ∷ ks) h =
    let p = not_broken (broken_alone c (component_scope k) k) k.begin.number (alone_fault c ks) h in
    ap (λ (t : Bool). cond t [] (k ∷ before_alone c ks)) p.0 ∙ ap (λ (l : List Component). k ∷ l) (before_all c ks p.1)

-- the second pass tells all
pub none_alone : (c : Context) (before all : List VEvent) (ks : List Component) → alone_fault c ks ≡ None
    → first_fault c before all ks ≡ beside_fault c before all ks
none_alone c before all ks h =
    two_passes c before all ks
    ∙ ap (rule_else (beside_fault c before all (before_alone c ks))) h
    ∙ rule_last (beside_fault c before all (before_alone c ks))
    ∙ ap (beside_fault c before all) (before_all c ks h)

pub none_alone_whole : (c : Context) (ks : List Component) → alone_fault c ks ≡ None → rule_fault c ks ≡ beside_fault c [] (vevents c ks) ks
unfolding rule_fault
none_alone_whole c ks h = none_alone c [] (vevents c ks) ks h

-- the first pass finds none exactly where no component is broken by itself
alone_each : (c : Context) (ks : List Component) → alone_fault c ks ≡ None → (k : Component) → Memᴰ k ks → broken_alone c (component_scope k) k ≡ false
unfolding alone_fault
alone_each c [] h k m = absurd (Memᴰ.not-nil m)
alone_each c (j ∷ ks) h k (Memᴰ.head e) =
    ap (λ (x : Component). broken_alone c (component_scope x) x) e
    ∙ (not_broken (broken_alone c (component_scope j) j) j.begin.number (alone_fault c ks) h).0
alone_each c (j ∷ ks) h k (Memᴰ.tail m) = alone_each c ks (not_broken (broken_alone c (component_scope j) j) j.begin.number (alone_fault c ks) h).1 k m

each_alone : (c : Context) (ks : List Component) → ((k : Component) → Memᴰ k ks → broken_alone c (component_scope k) k ≡ false) → alone_fault c ks ≡ None
unfolding alone_fault broken_or
each_alone c [] n = refl
each_alone c (k ∷ ks) n =
    ap (λ (t : Bool). broken_or t k.begin.number (alone_fault c ks)) (n k (Memᴰ.head refl)) ∙ each_alone c ks (λ j m. n j (Memᴰ.tail m))

pub alone_good_iff : (c : Context) (ks : List Component)
    → (alone_fault c ks ≡ None) ↔ ((k : Component) → Memᴰ k ks → broken_alone c (component_scope k) k ≡ false)
alone_good_iff c ks = (alone_each c ks, each_alone c ks)

-- ---- where no rule is broken

-- k breaks no rule, by itself and beside others
pub record Unbroken (c : Context) (before all : List VEvent) (k : Component) : Type 0 where
  pub alone : broken_alone c (component_scope k) k ≡ false
  pub beside : broken_beside c before all (component_scope k) k ≡ false

pub good_here : (c : Context) (before all : List VEvent) (k : Component) (ks : List Component) → first_fault c before all (k ∷ ks) ≡ None
    → Unbroken c before all k
unfolding first_fault
good_here c before all k ks h =
    let q : (broken_alone c (component_scope k) k || broken_beside c before all (component_scope k) k) ≡ false =
    sym (breaks_either c before all (component_scope k) k) ∙ (not_broken _ k.begin.number _ h).0 in
    record { alone = or_left _ (broken_beside c before all (component_scope k) k) q; beside = or_right (broken_alone c (component_scope k) k) _ q }

pub good_on : (c : Context) (before all : List VEvent) (k : Component) (ks : List Component) → first_fault c before all (k ∷ ks) ≡ None
    → first_fault c (before ++ vevents_as c (component_scope k) k) all ks ≡ None
unfolding first_fault
good_on c before all k ks h = (not_broken (breaks_rule c before all (component_scope k) k) k.begin.number _ h).1

good_from_lem : (c : Context) (before all : List VEvent) (b : List Component) (k : Component) (d : List Component)
    → first_fault c before all (b ++ (k ∷ d)) ≡ None → Unbroken c (before ++ vevents c b) all k
unfolding vevents
good_from_lem c before all [] k d h = subst (λ (l : List VEvent). Unbroken c l all k) (sym (append-nil before)) (good_here c before all k d h)
good_from_lem c before all (j ∷ b) k d h =
    subst (λ (l : List VEvent). Unbroken c l all k) (append_assoc before (vevents_as c (component_scope j) j) (vevents c b))
    (good_from_lem c (before ++ vevents_as c (component_scope j) j) all b k d (good_on c before all j (b ++ (k ∷ d)) h))

-- of a whole file: each component, beside the VEVENTs before it
pub good_each : (c : Context) (b : List Component) (k : Component) (d : List Component) → rule_fault c (b ++ (k ∷ d)) ≡ None
    → Unbroken c (vevents c b) (vevents c (b ++ (k ∷ d))) k
unfolding rule_fault
good_each c b k d h = good_from_lem c [] (vevents c (b ++ (k ∷ d))) b k d h

-- and so the first pass found none
pub good_alone : (c : Context) (ks : List Component) → rule_fault c ks ≡ None → alone_fault c ks ≡ None
good_alone c ks h = (rules_passed (beside_fault c [] (vevents c ks) (before_alone c ks)) (alone_fault c ks) (sym (two_passes_whole c ks) ∙ h)).1

-- ---- the VEVENTs alone

-- the line that overrides tells, as the check of a calendar
abbrev pub as_check : RuleLine → Option ℕ
as_check all_keep = None
as_check (broken_at n) = Some n

-- where no VFREEBUSY is broken, the VEVENTs tell; so the examples of overrides speak of calendars
pub by_vevents : (c : Context) (before all : List VEvent) (ks : List Component)
    → ((k : Component) → Memᴰ k ks → component_scope k ≡ Scope.FreeBusy → block_broken (block_of c k) ≡ false)
    → first_fault c before all ks ≡ as_check (first_broken before all (vevents c ks))
unfolding first_fault vevents first_broken broken_or breaks_rule vevents_as vevent_of
by_vevents c before all [] n = refl
by_vevents c before all (k ∷ ks) n = go (component_scope k) refl (λ b. by_vevents c b all ks (λ j m. n j (Memᴰ.tail m)))
  where
    tells : (t : Bool) (m : ℕ) (r : RuleLine) → broken_or t m (as_check r) ≡ as_check (cond t (broken_at m) r)
    tells true m r = refl
    tells false m r = refl

    go : (s : Scope) → component_scope k ≡ s → ((b : List VEvent) → first_fault c b all ks ≡ as_check (first_broken b all (vevents c ks)))
        → broken_or (breaks_rule c before all s k) k.begin.number (first_fault c (before ++ vevents_as c s k) all ks)
        ≡ as_check (first_broken before all (vevents_as c s k ++ vevents c ks))
    go Scope.Event e ih =
        ap (broken_or (breaks before all (vevent_of c k)) k.begin.number) (ih (before ++ (vevent_of c k ∷ [])))
        ∙ tells (breaks before all (vevent_of c k)) k.begin.number (first_broken (before ++ (vevent_of c k ∷ [])) all (vevents c ks))
    go Scope.FreeBusy e ih =
        ap (λ (t : Bool). broken_or t k.begin.number (first_fault c (before ++ []) all ks)) (n k (Memᴰ.head refl) e)
        ∙ ap (λ (l : List VEvent). first_fault c l all ks) (append-nil before)
        ∙ ih before
    go Scope.Other e ih = ap (λ (l : List VEvent). first_fault c l all ks) (append-nil before) ∙ ih before

-- of a whole file
pub by_vevents_whole : (c : Context) (ks : List Component)
    → ((k : Component) → Memᴰ k ks → component_scope k ≡ Scope.FreeBusy → block_broken (block_of c k) ≡ false)
    → rule_fault c ks ≡ as_check (broken_line (vevents c ks))
unfolding rule_fault broken_line
by_vevents_whole c ks n = by_vevents c [] (vevents c ks) ks n
