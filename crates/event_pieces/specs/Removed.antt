-- An event by its row, with the starts that are taken away from it: what must be known of the row, and the periods of its instances.
use Rattle.std.specs.Prelude.{ℕ, ◌+◌, ◌*◌, ◌≤◌, ◌≡◌, cond, List, [], eqb, length, get_or}
use Rattle.periods.specs.BusyTypes.{BusyPeriod}
use Rattle.events.specs.Sizes.{EventSmall}
use Rattle.events.specs.EntryRows.{event_at}
use Rattle.series.specs.Columns.{gone_at, PartAt}
use Rattle.pieces.specs.BusyPeriods.{event_periods}

-- row k can be looked at: it stands in the columns, and an event there is small
pub record RowKnown (rows entries places removed : List ℕ) (k : ℕ) : Type 0 where
  pub row_room : 4 * k + 4 ≤ length rows
  pub entry_room : 12 * k + 12 ≤ length entries
  pub event_small : get_or rows (4 * k + 3) 0 ≡ 1 → EventSmall (event_at entries k)
  pub part : PartAt places removed k

-- the periods of its instances, where it is an event
unfoldable pub row_periods : List ℕ → List ℕ → List ℕ → List ℕ → ℕ → List BusyPeriod
row_periods rows entries places removed k = cond (eqb (get_or rows (4 * k + 3) 0) 1) (event_periods (event_at entries k) (gone_at places removed k)) []
