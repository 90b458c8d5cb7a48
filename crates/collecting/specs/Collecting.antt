-- Collecting (refusals 1 to 3 and 6 to 11 of a report, then the period tables): what a report writes, and later calls stand on.
use Rattle.std.specs.Prelude.{ℕ, ◌≡◌, true, List, [], Result, Ok, Err}
use Rattle.periods.specs.declared.Period.{Period}
use Rattle.periods.specs.declared.BusyType.{BusyType}
use Rattle.periods.specs.BusyTypes.{is_busy}
use Rattle.calendar.specs.declared.Refusal.{Refusal}
use Rattle.calendar.specs.Refused.{refusal_of}
use Rattle.refusals.specs.Refusals.{first_refusal}
use Rattle.refusals.specs.Stages.{work_by}
use Rattle.collecting.specs.CalendarTerms.{CalendarTerms, report_for, early_rows, collect_rows}
use Rattle.collecting.specs.CollectStages.{periods_in, Few}
use Rattle.periods.specs.declared.Counts.{Counts}

-- the periods of each type, none where there is a refusal
unfoldable pub periods_by : Result (Unit {0}) Refusal → CalendarTerms → BusyType → List Period
periods_by (Ok _) m b = (report_for m).periods b
periods_by (Err r) m b = []

-- the whole promise: the refusal or none, every byte of the work buffer, and the three tables in their columns
pub record Collects (m : CalendarTerms) (r : Result Counts Refusal) (ss es work_left : List ℕ) : Type 0 where
  pub fault_is : refusal_of r ≡ first_refusal (collect_rows m)
  pub work_left_is : work_left ≡ work_by (first_refusal (early_rows m)) m.calendar m.work
  pub periods_are : (b : BusyType) → is_busy b ≡ true → periods_in r ss es b ≡ periods_by (first_refusal (collect_rows m)) m b
  pub few : Few r
