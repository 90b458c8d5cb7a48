-- Refusal 10 as two passes over the components find it: the first asks each by itself,
-- the second asks the VEVENTs beside others. That both together find the first that breaks a rule is in proofs/Passes.antt.
use Rattle.std.specs.Prelude.{Bool, false, cond, List, [], ◌∷◌, ◌++◌, None, Option, ℕ}
use Rattle.values.specs.declared.times.Context.{Context}
use Rattle.property.specs.declared.Scope.{Scope}
use Rattle.nesting.specs.Components.{Component}
use Rattle.overrides.specs.VEvents.{VEvent}
use Rattle.overrides.specs.Rules.{breaks_alone, breaks_beside}
use Rattle.calendar.specs.Meaning.{component_scope, block_of, vevent_of, vevents_as, block_broken, broken_or}

-- ---- by itself

unfoldable pub broken_alone : Context → Scope → Component → Bool
broken_alone c Scope.Event k = breaks_alone (vevent_of c k)
broken_alone c Scope.FreeBusy k = block_broken (block_of c k)
broken_alone c Scope.Other k = false

-- the first that breaks a rule by itself
unfoldable pub alone_fault : Context → List Component → Option ℕ
alone_fault c [] = None
alone_fault c (k ∷ ks) = broken_or (broken_alone c (component_scope k) k) k.begin.number (alone_fault c ks)

-- the components before it, all where there is none
unfoldable pub before_alone : Context → List Component → List Component
before_alone c [] = []
before_alone c (k ∷ ks) = cond (broken_alone c (component_scope k) k) [] (k ∷ before_alone c ks)

-- ---- beside the VEVENTs before it and all of the file

unfoldable pub broken_beside : Context → List VEvent → List VEvent → Scope → Component → Bool
broken_beside c before all Scope.Event k = breaks_beside before all (vevent_of c k)
broken_beside c before all Scope.FreeBusy k = false
broken_beside c before all Scope.Other k = false

-- the first that breaks a rule beside others
unfoldable pub beside_fault : Context → List VEvent → List VEvent → List Component → Option ℕ
beside_fault c before all [] = None
beside_fault c before all (k ∷ ks) =
    broken_or (broken_beside c before all (component_scope k) k) k.begin.number (beside_fault c (before ++ vevents_as c (component_scope k) k) all ks)
