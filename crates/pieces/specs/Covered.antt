-- The covered seconds of a busy type (document 01, Busy type): by the calendar and its offset alone.
use Rattle.std.specs.Prelude.{ℕ, ◌≤◌, ◌<◌, ◌≡◌, Bool, true, false, List, [], ◌∷◌}
use Rattle.periods.specs.declared.Period.{Period}
use Rattle.periods.specs.declared.BusyType.{BusyType}
use Rattle.periods.specs.Periods.{covers}
use Rattle.periods.specs.BusyTypes.{same_busy, BusyPeriod}
use Rattle.events.specs.Events.{Entry}
use Rattle.pieces.specs.BusyPeriods.{busy_periods, IsBusyPeriod}

-- the periods of one type
unfoldable pub of_type : BusyType → List BusyPeriod → List Period
of_type b [] = []
of_type b (p ∷ ps) = elim (same_busy b p.busy) [ true ↦ p.period ∷ of_type b ps | false ↦ of_type b ps ]

-- does a period of the type cover the second?
unfoldable pub covered_by : BusyType → List BusyPeriod → ℕ → Bool
covered_by b ps x = covers (of_type b ps) x

-- is the second covered under the type?
unfoldable pub covered : BusyType → List Entry → ℕ → Bool
covered b es x = covered_by b (busy_periods es) x

-- the same for the reader: some instance that takes place, or some FREEBUSY period, of that type covers the second
pub record Covers (es : List Entry) (b : BusyType) (x : ℕ) : Type 0 where
  pub which : BusyPeriod
  pub there : IsBusyPeriod es which
  pub type : which.busy ≡ b
  pub from : which.period.start ≤ x
  pub to : x < which.period.end
