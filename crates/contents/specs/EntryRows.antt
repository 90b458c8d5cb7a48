-- The events and blocks of a calendar as rows of numbers, row by row those of its components.
use Rattle.std.specs.Prelude.{ℕ, ◌+◌, ◌*◌, ◌<◌, ◌≡◌, List, length, get_or, Some}
use Rattle.values.specs.declared.times.Context.{Context}
use Rattle.structure.specs.Rows.{component_by}
use Rattle.events.specs.EntryRows.{event_at, block_at}
use Rattle.calendar.specs.Meaning.{event_of, block_of}

-- of the components of the first m rows, the column has the event or the block in the row of the same number
pub record EntryRows (c : Context) (s rows column : List ℕ) (m : ℕ) : Type 0 where
  pub room : length column ≡ 3072
  pub events : (k : ℕ) → k < m → get_or rows (4 * k + 3) 0 ≡ 1 → event_of c (component_by s rows k) ≡ Some (event_at column k)
  pub blocks : (k : ℕ) → k < m → get_or rows (4 * k + 3) 0 ≡ 2 → block_of c (component_by s rows k) ≡ Some (block_at column k)
