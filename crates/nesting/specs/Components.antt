-- The components of a calendar as a tree, read from any lines at all; names are not compared at END.
-- On lines that are nested right it is the file: nothing is lost and nothing invented.
use Rattle.std.specs.Prelude.{ℕ, zero, suc, List, [], ◌∷◌, ◌++◌}
use Rattle.line.specs.Grammar.{ContentLine, content_line}
use Rattle.delimiters.specs.Delimiters.{delimiter_of}
use Rattle.delimiters.specs.declared.Delimiter.{Delimiter}
use Rattle.delimiters.specs.declared.Delimiter.TheVariants.{Begins, Ends, Property, Wrong}

-- a content line and its number in the file, counted from 1
pub record Numbered : Type 0 where
  pub number : ℕ
  pub line : ContentLine

-- a line as the tree takes it
pub data Delimited : Type 0 where
  begins : Numbered → Delimited
  ends : Numbered → Delimited
  other : Numbered → Delimited

abbrev pub delimited_as : Delimiter → Numbered → Delimited
delimited_as Begins x = begins x
delimited_as Ends x = ends x
delimited_as Property x = other x
delimited_as Wrong x = other x

unfoldable pub delimited_from : ℕ → List ContentLine → List Delimited
delimited_from i [] = []
delimited_from i (x ∷ xs) = delimited_as (delimiter_of x) (record { number = i; line = x }) ∷ delimited_from (suc i) xs

-- items that stand side by side: properties, and components with their BEGIN line, the items in them and their END line
pub data Items : Type 0 where
  none : Items
  property : Numbered → Items → Items
  component : Numbered → Items → Numbered → Items → Items

-- the END line of the component that is open d levels out; where there is none, an empty line numbered 0
unfoldable pub end_of : ℕ → List Delimited → Numbered
end_of d [] = record { number = 0; line = content_line [] [] [] }
end_of d (begins x ∷ s) = end_of (suc d) s
end_of zero (ends x ∷ s) = x
end_of (suc d) (ends x ∷ s) = end_of d s
end_of d (other x ∷ s) = end_of d s

-- the items that are left of the component that is open d levels out
unfoldable pub items_of : ℕ → List Delimited → Items
items_of d [] = none
items_of zero (begins x ∷ s) = component x (items_of 0 s) (end_of 0 s) (items_of 1 s)
items_of (suc d) (begins x ∷ s) = items_of (suc (suc d)) s
items_of zero (ends x ∷ s) = none
items_of (suc d) (ends x ∷ s) = items_of d s
items_of zero (other x ∷ s) = property x (items_of 0 s)
items_of (suc d) (other x ∷ s) = items_of (suc d) s

-- the tree of a file: what stands outside every component
unfoldable pub tree_of : List ContentLine → Items
tree_of xs = items_of 0 (delimited_from 1 xs)

-- one component, taken out of its items
pub record Component : Type 0 where
  pub begin : Numbered
  pub items : Items
  pub end : Numbered

-- the components that stand side by side, in order
unfoldable pub components_in : Items → List Component
components_in none = []
components_in (property x i) = components_in i
components_in (component b k e i) = record { begin = b; items = k; end = e } ∷ components_in i

-- the properties that stand side by side, in order
unfoldable pub properties_in : Items → List Numbered
properties_in none = []
properties_in (property x i) = x ∷ properties_in i
properties_in (component b k e i) = properties_in i

-- the items directly in the first component: of a calendar, those right below VCALENDAR
unfoldable pub items_below : Items → Items
items_below none = none
items_below (property x i) = items_below i
items_below (component b k e i) = k

-- the lines that items were read from
unfoldable pub rendered_items : Items → List Numbered
rendered_items none = []
rendered_items (property x i) = x ∷ rendered_items i
rendered_items (component b k e i) = b ∷ (rendered_items k ++ (e ∷ rendered_items i))
