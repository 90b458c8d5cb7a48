-- Writing a report: what the rows of two columns say, and what is left in the output.
use Rattle.std.specs.Prelude.{ℕ, ◌+◌, ◌≡◌, List, [], length}
use Rattle.std.proofs.lemmas.List.Edits.{sets}
use Rattle.periods.specs.declared.Period.{Period}
use Rattle.periods.specs.declared.BusyType.{BusyType}
use Rattle.table.specs.Tables.{table_at, listed}
use Rattle.report.specs.Bytes.{Report, GoodPeriods}

-- the periods of a busy type, where the tables of the three types stand one behind the other: x, y and z rows
unfoldable pub packed : ℕ → ℕ → ℕ → List ℕ → List ℕ → BusyType → List Period
packed x y z ss es BusyType.Busy = listed (table_at 0 x ss es)
packed x y z ss es BusyType.Tentative = listed (table_at x y ss es)
packed x y z ss es BusyType.Unavailable = listed (table_at (x + y) z ss es)
packed x y z ss es BusyType.Free = []

unfoldable pub report_of : ℕ → ℕ → ℕ → (BusyType → List Period) → Report
report_of a b stamp f = record { start = a; end = b; stamp = stamp; periods = f }

-- the periods of every type have a second at least, and end within the limits
abbrev pub AllGood : (BusyType → List Period) → Type 0
AllGood f = (b : BusyType) → GoodPeriods (f b)

-- bytes x were written at place a of o, which left o', and r is the place behind them
pub record Put (o : List ℕ) (a : ℕ) (x o' : List ℕ) (r : ℕ) : Type 0 where
  pub bytes : o' ≡ sets o a x
  pub place : r ≡ a + length x
