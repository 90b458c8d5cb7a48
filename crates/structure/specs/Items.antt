-- From item to item of a component, by line numbers and rows.
use Rattle.std.specs.Prelude.{ℕ, ◌+◌, ◌*◌, ◌≤◌, ◌<◌, ◌≡◌, cond, ◌&&◌, List, eqb, leb, ltb, length, get_or}
use Rattle.text.specs.Lines.{content_lines}
use Rattle.nesting.specs.Components.{Numbered, none, property, component}
use Rattle.structure.specs.Rows.{items_by, numbered_line, ItemsAt}
use Rattle.structure.specs.declared.items.Item.{Item}

-- the item at line i, where the rows from k up to m are those of the components that are left, and line j ends them
unfoldable pub item_by : List ℕ → ℕ → ℕ → ℕ → ℕ → Item
item_by rows i k j m =
    cond (leb j i) Item.Done
    (cond (ltb k m && eqb (get_or rows (4 * k) 0) (i + 1)) (Item.Inner (get_or rows (4 * k + 1) 0) (get_or rows (4 * k + 2) 0)) Item.Property)

-- the item at line i is a property
pub record PropertyAt (s rows : List ℕ) (i k j m : ℕ) : Type 0 where
  pub inside : i < length (content_lines s)
  pub items : items_by s i ≡ property (numbered_line s i) (items_by s (i + 1))
  pub rest : ItemsAt s rows (i + 1) k j m
  pub onward : i < j

-- a component begins at line i; the items after it begin at line `next`, with row `row`
pub record InnerAt (s rows : List ℕ) (i k j m next row : ℕ) : Type 0 where
  pub end : Numbered
  pub items : items_by s i ≡ component (numbered_line s i) (items_by s (i + 1)) end (items_by s next)
  pub rest : ItemsAt s rows next row j m
  pub onward : i < next
  pub within : next ≤ j

-- what a step from item to item tells
pub data ItemAt (s rows : List ℕ) (i k j m : ℕ) : Item → Type 0 where
  is_property : PropertyAt s rows i k j m → ItemAt s rows i k j m Item.Property
  is_inner : {next row : ℕ} → InnerAt s rows i k j m next row → ItemAt s rows i k j m (Item.Inner next row)
  is_done : items_by s i ≡ none → ItemAt s rows i k j m Item.Done
