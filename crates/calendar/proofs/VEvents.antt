-- The VEVENTs of a calendar: those of two parts of its components,
-- and which starts are taken away from a component.
use mathlib.Core.Path.{◌≡◌, refl, sym, ap, ◌∙◌}
use mathlib.Core.List.{List, [], ◌∷◌, ◌++◌, append_assoc, append-nil}
use Rattle.values.specs.declared.times.Context.{Context}
use Rattle.property.specs.declared.Scope.{Scope}
use Rattle.nesting.specs.Components.{Component}
use Rattle.overrides.specs.VEvents.{VEvent}
use Rattle.overrides.specs.Instances.{removed_from as starts_removed}
use Rattle.calendar.specs.Meaning.{component_scope, vevent_of, vevents_as, vevents, removed_as, removed_from}

-- ---- in file order

pub vevents_append : (c : Context) (ks js : List Component) → vevents c (ks ++ js) ≡ vevents c ks ++ vevents c js
unfolding vevents
vevents_append c [] js = refl
vevents_append c (k ∷ ks) js =
    let here = vevents_as c (component_scope k) k in
    ap (λ (l : List VEvent). here ++ l) (vevents_append c ks js) ∙ sym (append_assoc here (vevents c ks) (vevents c js))

-- one component more
pub vevents_next : (c : Context) (ks : List Component) (k : Component) → vevents c (ks ++ (k ∷ [])) ≡ vevents c ks ++ vevents_as c (component_scope k) k
unfolding vevents
vevents_next c ks k = vevents_append c ks (k ∷ []) ∙ ap (λ (l : List VEvent). vevents c ks ++ l) (append-nil (vevents_as c (component_scope k) k))

-- from a component on: what stands before it, it, and what is left make all
pub vevents_on : (c : Context) (before all : List VEvent) (k : Component) (ks : List Component)
    → before ++ vevents c (k ∷ ks) ≡ all → (before ++ vevents_as c (component_scope k) k) ++ vevents c ks ≡ all
unfolding vevents
vevents_on c before all k ks h = append_assoc before (vevents_as c (component_scope k) k) (vevents c ks) ∙ h

-- ---- one component, by what it is

module _ (c : Context) (k : Component) where
  -- a VEVENT is one more
  pub vevents_event : component_scope k ≡ Scope.Event → vevents_as c (component_scope k) k ≡ vevent_of c k ∷ []
  unfolding vevents_as
  vevents_event e = ap (λ (s : Scope). vevents_as c s k) e

  -- any other is none
  pub vevents_none : (component_scope k ≡ Scope.Event → ⊥) → vevents_as c (component_scope k) k ≡ []
  unfolding vevents_as
  vevents_none n = go (component_scope k) refl
    where
      go : (s : Scope) → component_scope k ≡ s → vevents_as c s k ≡ []
      go Scope.Event e = absurd (n e)
      go Scope.FreeBusy e = refl
      go Scope.Other e = refl

  pub removed_event : (all : List Component) → component_scope k ≡ Scope.Event → removed_from c all k ≡ starts_removed (vevents c all) (vevent_of c k)
  unfolding removed_from removed_as
  removed_event all e = ap (λ (s : Scope). removed_as c (vevents c all) s k) e

  -- from what is no VEVENT nothing is taken away
  pub removed_none : (all : List Component) → (component_scope k ≡ Scope.Event → ⊥) → removed_from c all k ≡ []
  unfolding removed_from removed_as
  removed_none all n = go (component_scope k) refl
    where
      go : (s : Scope) → component_scope k ≡ s → removed_as c (vevents c all) s k ≡ []
      go Scope.Event e = absurd (n e)
      go Scope.FreeBusy e = refl
      go Scope.Other e = refl
