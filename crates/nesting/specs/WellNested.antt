-- The rules of nesting as a property of a tree (document 01, Nesting), for the reader.
-- The lines of a file are nested right exactly where they are the lines of a tree that is well nested.
use Rattle.std.specs.Prelude.{ℕ, suc, ◌+◌, ◌≤◌, ◌≡◌, true, false, List, [], ◌∷◌}
use Rattle.ascii.specs.Names.{same_name}
use Rattle.line.specs.Grammar.{ContentLine}
use Rattle.delimiters.specs.Delimiters.{delimiter_of}
use Rattle.delimiters.specs.Innermost.{is_calendar, is_event, is_free_busy}
use Rattle.delimiters.specs.declared.Delimiter.TheVariants.{Begins, Ends, Property}
use Rattle.nesting.specs.Components.{Numbered, Items, none, property, component}

-- content lines with their numbers, the first of them number i
unfoldable pub numbered_from : ℕ → List ContentLine → List Numbered
numbered_from i [] = []
numbered_from i (x ∷ xs) = record { number = i; line = x } ∷ numbered_from (suc i) xs

-- how many components stand among the items, and in these
unfoldable pub component_count : Items → ℕ
component_count none = 0
component_count (property x i) = component_count i
component_count (component b k e i) = suc (component_count k + component_count i)

-- b is a BEGIN line, e an END line, and the two name the same component
pub record Encloses (b e : Numbered) : Type 0 where
  pub begins : delimiter_of b.line ≡ Begins
  pub ends : delimiter_of e.line ≡ Ends
  pub names : same_name e.line.value b.line.value ≡ true

-- a component inside VCALENDAR may stand at depth d
pub record AllowedAt (d : ℕ) (b : Numbered) : Type 0 where
  pub no_calendar : is_calendar b.line.value ≡ false
  pub at_most_8 : d ≤ 8
  pub event_at_2 : is_event b.line.value ≡ true → d ≡ 2
  pub free_busy_at_2 : is_free_busy b.line.value ≡ true → d ≡ 2

-- items side by side, whose components are at depth d
pub data NestedAt : ℕ → Items → Type 0 where
  nothing : {d : ℕ} → NestedAt d none
  with_property_holds : {d : ℕ} {x : Numbered} {i : Items} → delimiter_of x.line ≡ Property → NestedAt d i → NestedAt d (property x i)
  with_component : {d : ℕ} {b e : Numbered} {k i : Items} → Encloses b e → AllowedAt d b → NestedAt (suc d) k → NestedAt d i
      → NestedAt d (component b k e i)

-- one VCALENDAR with nothing beside it, at most 256 components in all
pub data WellNested : Items → Type 0 where
  calendar : {b e : Numbered} {k : Items} → Encloses b e → is_calendar b.line.value ≡ true → NestedAt 2 k
      → 1 + component_count k ≤ 256 → WellNested (component b k e none)
