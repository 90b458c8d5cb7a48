-- A block by its periods (document 01, Events and blocks): some period of the list meets the range.
use Rattle.std.specs.Prelude.{ℕ, ◌≡◌, true}
use mathlib.Core.List.{List, Memᴰ}
use Rattle.periods.specs.BusyTypes.{BusyPeriod}
use Rattle.recurrence.specs.TimeRange.{overlaps}

-- some period of the list touches the range
pub record PeriodIn (a b : ℕ) (ps : List BusyPeriod) : Type 0 where
  pub which : BusyPeriod
  pub listed : Memᴰ which ps
  pub passes : overlaps a b which.period.start which.period.end ≡ true
