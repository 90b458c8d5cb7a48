-- Where the second pass stops, and what it may ask of a row.
use Rattle.std.specs.Prelude.{ℕ, ◌<◌, ◌≡◌, false, List, None, Option, Some}
use Rattle.values.specs.declared.times.Context.{Context}
use Rattle.structure.specs.Rows.{RowOf, component_by}
use Rattle.calendar.specs.Meaning.{component_scope}
use Rattle.calendar.specs.Passes.{broken_alone}
use Rattle.series.specs.VEventRows.{OneEach}

-- the line of the first component that is broken by itself; behind every line, where none is
unfoldable pub stop_line : Option ℕ → ℕ
stop_line None = 65536
stop_line (Some n) = n

-- row k is that of a component that is not broken by itself, and no event before it is
pub record Reached (c : Context) (s rows links : List ℕ) (k m : ℕ) : Type 0 where
  pub there : k < m
  pub row : RowOf s rows k
  pub alone : broken_alone c (component_scope (component_by s rows k)) (component_by s rows k) ≡ false
  pub one_each : OneEach rows links k
