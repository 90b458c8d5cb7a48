-- The busy types and their places (document 01, The report's bytes): BUSY first, then BUSY-TENTATIVE, then BUSY-UNAVAILABLE.
use Rattle.std.specs.Prelude.{ℕ, Bool, true, false, List, [], ◌∷◌, eqb}
use Rattle.periods.specs.declared.Period.{Period}
use Rattle.periods.specs.declared.BusyType.{BusyType}

-- the place of a busy type in a report, counted from 0; free time has none and comes behind them
unfoldable pub report_place : BusyType → ℕ
report_place BusyType.Busy = 0
report_place BusyType.Tentative = 1
report_place BusyType.Unavailable = 2
report_place BusyType.Free = 3

-- free time is no busy time
unfoldable pub is_busy : BusyType → Bool
is_busy BusyType.Busy = true
is_busy BusyType.Tentative = true
is_busy BusyType.Unavailable = true
is_busy BusyType.Free = false

-- two busy types are one where they have one place
unfoldable pub same_busy : BusyType → BusyType → Bool
same_busy a b = eqb (report_place a) (report_place b)

-- a busy period: a period with its type
pub record BusyPeriod : Type 0 where
  pub busy : BusyType
  pub period : Period

abbrev pub typed : BusyType → List Period → List BusyPeriod
typed b [] = []
typed b (p ∷ ps) = record { busy = b; period = p } ∷ typed b ps

-- the periods without their types
abbrev pub periods_of : List BusyPeriod → List Period
periods_of [] = []
periods_of (p ∷ ps) = p.period ∷ periods_of ps
