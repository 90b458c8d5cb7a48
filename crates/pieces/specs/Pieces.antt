-- Busy pieces (document 01, Busy type): the non-free ones that cover a second of the range, each clipped to it.
use Rattle.std.specs.Prelude.{ℕ, ◌≤◌, ◌<◌, min, max, ◌≡◌, Bool, true, false, ◌&&◌, List, [], ◌∷◌, ◌++◌, ltb}
use Rattle.periods.specs.declared.Period.{Period}
use Rattle.periods.specs.BusyTypes.{is_busy, BusyPeriod}
use Rattle.events.specs.Events.{Entry}
use Rattle.periods.specs.Periods.{period}
use Rattle.pieces.specs.BusyPeriods.{busy_periods, IsBusyPeriod}

-- the part of a period in the range from a up to, but not including, b
unfoldable pub clipped : ℕ → ℕ → Period → Period
clipped a b p = period (max a p.start) (min b p.end)

-- it is busy time, and a second of it is in the range
unfoldable pub is_piece : ℕ → ℕ → BusyPeriod → Bool
is_piece a b p = is_busy p.busy && ltb (clipped a b p.period).start (clipped a b p.period).end

unfoldable pub piece_of : ℕ → ℕ → BusyPeriod → List BusyPeriod
piece_of a b p = elim (is_piece a b p) [ true ↦ record { busy = p.busy; period = clipped a b p.period } ∷ [] | false ↦ [] ]

unfoldable pub pieces_of : ℕ → ℕ → List BusyPeriod → List BusyPeriod
pieces_of a b [] = []
pieces_of a b (p ∷ ps) = piece_of a b p ++ pieces_of a b ps

-- the busy pieces of a calendar
unfoldable pub busy_pieces : ℕ → ℕ → List Entry → List BusyPeriod
busy_pieces a b es = pieces_of a b (busy_periods es)

-- the same for the reader: p is what lies in the range of an instance or a period that is busy time and covers a second of the range
pub record PieceIs (es : List Entry) (a b : ℕ) (p : BusyPeriod) : Type 0 where
  pub whole : BusyPeriod
  pub there : IsBusyPeriod es whole
  pub busy_time : is_busy whole.busy ≡ true
  pub second : ℕ
  pub in_range_holds : (a ≤ second) × (second < b)
  pub covered : (whole.period.start ≤ second) × (second < whole.period.end)
  pub part : p ≡ record { busy = whole.busy; period = clipped a b whole.period }
