-- The period table of one busy type: how two columns are a list of periods.
use Rattle.std.specs.Prelude.{ℕ, ◌+◌, ◌≤◌, ◌≡◌, List, [], ◌∷◌, map, length, take, drop}
use Rattle.periods.specs.declared.Period.{Period}
use Rattle.periods.specs.Periods.{period}
use Rattle.table.specs.Inserting.{inserted}
use Rattle.table.specs.declared.Span.{Span}
use Rattle.table.specs.declared.Table.{Table}

-- the periods of two columns, row by row
unfoldable pub rows : List ℕ → List ℕ → List Period
rows [] es = []
rows (s ∷ ss) [] = []
rows (s ∷ ss) (e ∷ es) = period s e ∷ rows ss es

-- the two columns of spans
abbrev pub starts_of : List Span → List ℕ
starts_of = map (λ (s : Span). s.start)

abbrev pub ends_of : List Span → List ℕ
ends_of = map (λ (s : Span). s.end)

-- a table with its columns: the first rows, as many as it counts
pub record PeriodTable : Type 0 where
  pub count : ℕ
  pub starts : List ℕ
  pub ends : List ℕ

-- the code's table, with the columns of the spans that are lent beside it
abbrev pub table_of : Table → List ℕ → List ℕ → PeriodTable
table_of t ss es = record { count = t.count; starts = ss; ends = es }

-- so many rows of two columns, from row k on
abbrev pub table_at : ℕ → ℕ → List ℕ → List ℕ → PeriodTable
table_at k n ss es = record { count = n; starts = drop k ss; ends = drop k es }

unfoldable pub listed : PeriodTable → List Period
listed t = take t.count (rows t.starts t.ends)

-- its columns are equally long, and have the rows that it counts
pub record Sound (t : PeriodTable) : Type 0 where
  pub few : t.count ≤ length t.starts
  pub even : length t.ends ≡ length t.starts

-- a span was added: the list says so, and it has one period more at most
pub record Added (t : PeriodTable) (a b : ℕ) (r : PeriodTable) : Type 0 where
  pub list : listed r ≡ inserted a b (listed t)
  pub count : r.count ≤ t.count + 1
  pub sound : Sound r
