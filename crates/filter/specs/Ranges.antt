-- A component against a time range, by what is read of it: the periods of a block's lines, and the row of an event or a block.
use Rattle.std.specs.Prelude.{ℕ, ◌+◌, ◌-◌, ◌*◌, ◌≤◌, ◌<◌, ◌≡◌, Bool, false, List, length, get_or}
use Rattle.periods.specs.BusyTypes.{BusyPeriod, periods_of}
use Rattle.line.specs.Grammar.{ContentLine}
use Rattle.query.specs.Records.{range_start, range_end}
use Rattle.query.specs.Counting.{some_below}
use Rattle.query.specs.declared.Sections.{Sections}
use Rattle.values.specs.declared.times.Context.{Context}
use Rattle.property.specs.Properties.{property_value_of}
use Rattle.property.specs.declared.Scope.{Scope}
use Rattle.nesting.specs.Components.{Numbered}
use Rattle.index.specs.Index.{Indexed}
use Rattle.structure.specs.Rows.{ComponentsAt, RowOf}
use Rattle.events.specs.Sizes.{EventSmall}
use Rattle.events.specs.EntryRows.{event_at, block_at}
use Rattle.events.specs.declared.Block.{Block}
use Rattle.calendar.specs.Meaning.{periods_by, block_periods}
use Rattle.recurrence.specs.TimeRange.{instance_in, periods_overlap, block_in}
use Rattle.recurrence.specs.Instances.{instances_at_most}
use Rattle.contents.specs.EntryRows.{EntryRows}

-- ---- what is given of a file

-- the index of its lines, and the column of its events and blocks
pub record Given (c : Context) (s index rows column : List ℕ) : Type 0 where
  pub indexed : Indexed s index
  pub entries : EntryRows c s rows column (get_or rows 2 0)

-- row k is that of one of its components
pub record Here (s rows : List ℕ) (k : ℕ) : Type 0 where
  pub row : RowOf s rows k
  pub within : get_or rows (4 * k + 2) 0 ≤ get_or rows 2 0

-- components of the file stand side by side from row k up to row m
pub record Among (s rows : List ℕ) (k m : ℕ) : Type 0 where
  pub components : ComponentsAt s rows k m
  pub within : m ≤ get_or rows 2 0

-- row k can be looked at: it stands in the column, and an event there is small
pub record RowSmall (rows column : List ℕ) (k : ℕ) : Type 0 where
  pub row_room : 4 * k + 4 ≤ length rows
  pub entry_room : 12 * k + 12 ≤ length column
  pub event_small : get_or rows (4 * k + 3) 0 ≡ 1 → EventSmall (event_at column k)

-- ---- the lines of a block

-- some period of a line overlaps the range
unfoldable pub line_in : Context → ℕ → ℕ → ContentLine → Bool
line_in c a b x = periods_overlap a b (periods_of (periods_by (property_value_of c Scope.FreeBusy x) x))

-- some period of these lines does
unfoldable pub lines_in : Context → ℕ → ℕ → List Numbered → Bool
lines_in c a b xs = periods_overlap a b (periods_of (block_periods c xs))

-- ---- what one look at a row rules out

-- the ends of a block stand outside the range, whatever its periods are
pub record EndsOutside (x : Block) (a b : ℕ) : Type 0 where
  pub outside : (ps : List BusyPeriod) → block_in x ps a b ≡ false

-- neither as an event, whatever starts are taken away from it, nor as a block is row k in the range
pub record RowOutside (rows column : List ℕ) (k a b : ℕ) : Type 0 where
  pub no_instance : get_or rows (4 * k + 3) 0 ≡ 1 → (gone : List ℕ) → some_below instances_at_most (instance_in (event_at column k) gone a b) ≡ false
  pub no_block : get_or rows (4 * k + 3) 0 ≡ 2 → EndsOutside (block_at column k) a b

-- there is a range, and row k is not in it
pub record RuledOut (p : List ℕ) (q : Sections) (r : ℕ) (rows column : List ℕ) (k : ℕ) : Type 0 where
  pub some : 0 < r
  pub outside : RowOutside rows column k (range_start p q (r - 1)) (range_end p q (r - 1))
