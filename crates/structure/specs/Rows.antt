-- The components of a file as rows of four numbers, in the order of their BEGIN lines, and what they say of its tree. Lines are counted from 0.
use Rattle.std.specs.Prelude.{ℕ, ◌+◌, ◌-◌, ◌*◌, ◌≤◌, ◌<◌, ◌≡◌, true, false, cond, List, [], map, ltb, length, drop, get_or}
use Rattle.text.specs.Lines.{content_lines}
use Rattle.line.specs.Grammar.{ContentLine}
use Rattle.line.specs.Reading.{line_of, value_of}
use Rattle.line.specs.WellFormed.{all_good}
use Rattle.delimiters.specs.Delimiters.{delimiter_of}
use Rattle.delimiters.specs.Innermost.{is_event, is_free_busy}
use Rattle.delimiters.specs.declared.Delimiter.{Delimiter}
use Rattle.delimiters.specs.declared.Delimiter.TheVariants.{Begins, Ends, Property}
use Rattle.nesting.specs.Components.{Numbered, Delimited, delimited_from, Items, none, end_of, items_of, Component, components_in}
use Rattle.nesting.specs.WellNested.{NestedAt}
use Rattle.nesting.specs.Files.{nesting_in}
use Rattle.index.specs.Index.{line_bytes, Indexed}

-- what the component of a name is: 1 an event, 2 a block, 0 anything else
unfoldable pub kind_of : List ℕ → ℕ
kind_of v = cond (is_event v) 1 (cond (is_free_busy v) 2 0)

-- the lines of a file from line i on
unfoldable pub lines_after : List ℕ → ℕ → List ContentLine
lines_after s i = drop i (map line_of (content_lines s))

-- the same as the tree takes them
unfoldable pub delimited_by : List ℕ → ℕ → List Delimited
delimited_by s i = delimited_from (i + 1) (lines_after s i)

-- the items that are left of the innermost open component at line i
unfoldable pub items_by : List ℕ → ℕ → Items
items_by s i = items_of 0 (delimited_by s i)

-- line i with its number, counted from 1
unfoldable pub numbered_line : List ℕ → ℕ → Numbered
numbered_line s i = record { number = i + 1; line = line_of (line_bytes s i) }

-- four numbers were put to a place, and the others are as they were
pub record RowPut (old : List ℕ) (at : ℕ) (row new : List ℕ) : Type 0 where
  pub here : (p : ℕ) → p < 4 → get_or new (at + p) 0 ≡ get_or row p 0
  pub before : (p : ℕ) → p < at → get_or new p 0 ≡ get_or old p 0
  pub behind : (p : ℕ) → at + 4 ≤ p → get_or new p 0 ≡ get_or old p 0

-- row k: the line behind the BEGIN line, the line behind the END line, the row of the next component that does not stand in it, what it is
pub record RowAt (rows : List ℕ) (k b e n t : ℕ) : Type 0 where
  pub begin : get_or rows (4 * k) 0 ≡ b
  pub end : get_or rows (4 * k + 1) 0 ≡ e
  pub next : get_or rows (4 * k + 2) 0 ≡ n
  pub kind : get_or rows (4 * k + 3) 0 ≡ t

-- line i stands in the file, and this is what it is to the nesting
pub record LineIs (s : List ℕ) (i : ℕ) (m : Delimiter) : Type 0 where
  pub inside : i < length (content_lines s)
  pub delimiter : delimiter_of (line_of (line_bytes s i)) ≡ m

-- the lines from i up to j are items side by side, and the rows from k up to m are those of the components among them and in these
pub data ItemRows (s rows : List ℕ) : ℕ → ℕ → ℕ → ℕ → Type 0 where
  nothing : {i k : ℕ} → ItemRows s rows i k i k
  with_property_holds : {i k j m : ℕ} → LineIs s i Property → ItemRows s rows (i + 1) k j m → ItemRows s rows i k j m
  with_component : {i k q n j m : ℕ} → LineIs s i Begins → RowAt rows k (i + 1) (q + 1) n (kind_of (value_of (line_bytes s i)))
      → ItemRows s rows (i + 1) (k + 1) q n → LineIs s q Ends → ItemRows s rows (q + 1) n j m → ItemRows s rows i k j m

-- ---- what a reader may ask of the rows

-- the items from line i on are those up to line j, and the rows of their components are those from k up to m
pub record ItemsAt (s rows : List ℕ) (i k j m : ℕ) : Type 0 where
  pub items : ItemRows s rows i k j m
  pub none_left : items_by s j ≡ none
  pub few : m ≤ 256
  pub room : 4 * m ≤ length rows
  pub inside : j ≤ 65535

-- components stand side by side from row k up to row m
pub record ComponentsAt (s rows : List ℕ) (k m : ℕ) : Type 0 where
  pub line : ℕ
  pub stop : ℕ
  pub items : ItemsAt s rows line k stop m

-- row k is that of a component: its BEGIN line is a line of the file, and the items in it are known
pub record RowOf (s rows : List ℕ) (k : ℕ) : Type 0 where
  pub room : 4 * k + 4 ≤ length rows
  pub few : k < 256
  pub some : 1 ≤ get_or rows (4 * k) 0
  pub begin_inside : get_or rows (4 * k) 0 ≤ length (content_lines s)
  pub stop : ℕ
  pub end : get_or rows (4 * k + 1) 0 ≡ stop + 1
  pub inner : ItemsAt s rows (get_or rows (4 * k) 0) (k + 1) stop (get_or rows (4 * k + 2) 0)
  pub kind : get_or rows (4 * k + 3) 0 ≡ kind_of (value_of (line_bytes s (get_or rows (4 * k) 0 - 1)))

-- the component of row k
unfoldable pub component_by : List ℕ → List ℕ → ℕ → Component
component_by s rows k =
    record {
      begin = numbered_line s (get_or rows (4 * k) 0 - 1);
      items = items_by s (get_or rows (4 * k) 0);
      end = end_of 0 (delimited_by s (get_or rows (4 * k) 0));
    }

-- the components that stand side by side from row k up to row m
unfoldable pub components_by : List ℕ → List ℕ → ℕ → ℕ → List Component
components_by s rows k m = elim (ltb k m) [ true ↦ components_in (items_by s (get_or rows (4 * k) 0 - 1)) | false ↦ [] ]

-- components stand side by side right below VCALENDAR, from row k up to row m
pub record BelowAt (s rows : List ℕ) (k m : ℕ) : Type 0 where
  pub components : ComponentsAt s rows k m
  pub nested : NestedAt 2 (items_by s components.line)

-- index and rows know a file that is nested right: row 0 is that of its first line's component, and the items outside every component are known
pub record FileRows (s index rows : List ℕ) : Type 0 where
  pub indexed : Indexed s index
  pub lines : ℕ
  pub top : ItemsAt s rows 0 0 lines (get_or rows 2 0)
  pub nested : nesting_in s ≡ all_good
  pub first : get_or rows 0 0 ≡ 1
  pub some : 0 < get_or rows 2 0
