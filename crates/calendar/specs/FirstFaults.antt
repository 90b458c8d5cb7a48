-- Refusals 8 to 10 for the reader (document 01, Refusal numbers): the first line with a fault of all that are read, and the first component that breaks a rule.
use Rattle.std.specs.Prelude.{ℕ, ◌≡◌}
use mathlib.Core.List.{List, [], ◌∷◌, ◌++◌, Memᴰ}
use Rattle.values.specs.declared.times.Context.{Context}
use Rattle.property.specs.Facts.{ValueFault, Reading}
use Rattle.property.specs.Properties.{property_value_of}
use Rattle.property.specs.declared.Scope.{Scope}
use Rattle.nesting.specs.Components.{Numbered, Component, properties_in}
use Rattle.calendar.specs.Meaning.{component_scope}
use Rattle.calendar.specs.ComponentRules.{Keeps}

-- x is the first of the list of which P holds
pub record First {A : Type 0} (P : A → Type 0) (xs : List A) (x : A) : Type 0 where
  pub before : List A
  pub behind : List A
  pub whole : xs ≡ before ++ (x ∷ behind)
  pub none_before : (y : A) → Memᴰ y before → P y → ⊥
  pub holds : P x

-- ---- 8 and 9

-- a line that stands directly in a component right below VCALENDAR, and what that component is
pub record ReadLine : Type 0 where
  pub scope : Scope
  pub at : Numbered

unfoldable pub lines_within : Scope → List Numbered → List ReadLine
lines_within s [] = []
lines_within s (x ∷ xs) = record { scope = s; at = x } ∷ lines_within s xs

-- all of them, in file order
unfoldable pub read_lines : List Component → List ReadLine
read_lines [] = []
read_lines (k ∷ ks) = lines_within (component_scope k) (properties_in k.items) ++ read_lines ks

-- what such a line says
unfoldable pub says_of : Context → ReadLine → Reading
says_of c x = property_value_of c x.scope x.at.line

-- an unsupported thing or a bad value
unfoldable pub Faulty : Context → ReadLine → Type 0
Faulty c x = (f : ValueFault) × (says_of c x ≡ Reading.fault f)

-- line i is the first with either, and has this one
pub record FirstFaulty (c : Context) (fault : ValueFault) (ks : List Component) (i : ℕ) : Type 0 where
  pub which : ReadLine
  pub first : First (Faulty c) (read_lines ks) which
  pub says : says_of c which ≡ Reading.fault fault
  pub number : which.at.number ≡ i

-- ---- 10

-- a component, and those before it in the file
pub record Placed : Type 0 where
  pub before : List Component
  pub component : Component

-- each of some components, which stand behind `before`
unfoldable pub placed_from : List Component → List Component → List Placed
placed_from before [] = []
placed_from before (k ∷ ks) = record { before = before; component = k } ∷ placed_from (before ++ (k ∷ [])) ks

-- in a file of these all, it does not keep the rules that its name asks for
unfoldable pub Breaks : Context → List Component → Placed → Type 0
Breaks c all p = Keeps c p.before all p.component → ⊥

-- the component that begins at line i is the first that breaks a rule, each asked beside those before it
pub record FirstBroken (c : Context) (ks : List Component) (i : ℕ) : Type 0 where
  pub which : Placed
  pub first : First (Breaks c ks) (placed_from [] ks) which
  pub number : which.component.begin.number ≡ i
