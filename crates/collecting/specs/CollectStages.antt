-- The stages of collecting: what is read of the call, and the refusal and the tables of each stage with those that follow it.
use Rattle.std.specs.Prelude.{ℕ, ◌+◌, ◌-◌, ◌≤◌, ◌≡◌, true, cond, ◌&&◌, List, [], ◌∷◌, ◌++◌, ℤ, None, Option, Result, Ok, Err}
use Rattle.time.specs.Limits.{range_good}
use Rattle.text.specs.Unfolding.{unfolded}
use Rattle.periods.specs.declared.Period.{Period}
use Rattle.values.specs.declared.times.Context.{Context}
use Rattle.periods.specs.declared.BusyType.{BusyType}
use Rattle.table.specs.Runs.{runs}
use Rattle.table.specs.Inserting.{inserted_all}
use Rattle.report.specs.Writing.{packed}
use Rattle.periods.specs.BusyTypes.{report_place, is_busy}
use Rattle.events.specs.Events.{Entry}
use Rattle.calendar.specs.Meaning.{entries_of, components_of}
use Rattle.calendar.specs.declared.Refusal.{Refusal}
use Rattle.calendar.specs.Refused.{refusal_of}
use Rattle.pieces.specs.Covered.{covered}
use Rattle.pieces.specs.Pieces.{busy_pieces}
use Rattle.refusals.specs.Refusals.{Row, first_refusal, contents_rows, calendar_rows}
use Rattle.refusals.specs.Offsets.{offset_read}
use Rattle.refusals.specs.Stages.{work_by}
use Rattle.tables.specs.Building.{periods_at}
use Rattle.collecting.specs.CalendarTerms.{stamp_good, piece_row}
use Rattle.periods.specs.declared.Counts.{Counts}

-- refusal 1: the offset once it is read, where range and stamp are good
unfoldable pub call_read : ℕ → ℕ → ℤ → ℕ → Option ℕ
call_read a e o t = cond (range_good a e && stamp_good t) (offset_read o) None

-- ---- the tables

-- the periods of each type, in the columns; none where there is a refusal
abbrev pub periods_in : Result Counts Refusal → List ℕ → List ℕ → BusyType → List Period
periods_in (Ok r) ss es b = packed r.busy r.tentative r.unavailable ss es b
periods_in (Err f) ss es b = []

-- how many they are together
abbrev pub all_periods : Result Counts Refusal → ℕ
all_periods (Ok r) = r.busy + r.tentative + r.unavailable
all_periods (Err f) = 0

-- at most 512
abbrev pub Few : Result Counts Refusal → Type 0
Few r = all_periods r ≤ 512

-- a table for each type, from the first n pieces of a column
pub record Typed (column : List ℕ) (n : ℕ) (r : Counts) (ss es : List ℕ) : Type 0 where
  pub built : (b : BusyType) → is_busy b ≡ true → periods_in (Ok r) ss es b ≡ inserted_all [] (periods_at (report_place b) n column)
  pub few : Few (Ok r)

-- periods where nothing is refused
unfoldable pub unless_fault : Result (Unit {0}) Refusal → List Period → List Period
unless_fault (Ok _) ps = ps
unless_fault (Err r) ps = []

-- the first refusal of some rows, and the tables of these periods where there is none
pub record Tabled (rows : List Row) (periods : BusyType → List Period) (r : Result Counts Refusal) (ss es : List ℕ) : Type 0 where
  pub fault_is : refusal_of r ≡ first_refusal rows
  pub periods_are : (b : BusyType) → is_busy b ≡ true → periods_in r ss es b ≡ unless_fault (first_refusal rows) (periods b)
  pub few : Few r

-- ---- rows and periods from a stage on

-- the covered seconds of the range as the fewest periods
unfoldable pub fewest_periods : ℕ → ℕ → List Entry → BusyType → List Period
fewest_periods a e es b = runs (covered b es) a (e - a)

-- 11, for the events and blocks of an unfolded calendar
unfoldable pub piece_rows : Context → List ℕ → ℕ → ℕ → List Row
piece_rows c u a e = piece_row (busy_pieces a e (entries_of c (components_of u))) ∷ []

-- the first of 8 to 11, and the tables where there is none
abbrev pub ContentsTabled : Context → List ℕ → ℕ → ℕ → Result Counts Refusal → List ℕ → List ℕ → Type 0
ContentsTabled c u a e r ss es = Tabled (contents_rows c u ++ piece_rows c u a e) (fewest_periods a e (entries_of c (components_of u))) r ss es

-- the first of 6 to 11, and the tables where there is none
abbrev pub CalendarTabled : Context → List ℕ → ℕ → ℕ → Result Counts Refusal → List ℕ → List ℕ → Type 0
CalendarTabled c u a e r ss es = Tabled (calendar_rows c u ++ piece_rows c u a e) (fewest_periods a e (entries_of c (components_of u))) r ss es

-- the same of a calendar that is unfolded first: that is left in the work buffer
pub record CalendarCollected (c : Context) (cal work : List ℕ) (a e : ℕ) (r : Result Counts Refusal) (ss es left : List ℕ) : Type 0 where
  pub tabled : CalendarTabled c (unfolded cal) a e r ss es
  pub work_left : left ≡ work_by (Ok tt) cal work
