-- The stages that both calls have: the sizes, and what is left in the work buffer (document 01, Refusal numbers).
use Rattle.std.specs.Prelude.{ℕ, List, ◌++◌, length, drop, Result, Ok, Err}
use Rattle.text.specs.Unfolding.{unfolded}
use Rattle.calendar.specs.declared.Refusal.{Refusal}
use Rattle.refusals.specs.Refusals.{first_refusal, size_rows}

-- refusals 2 and 3
unfoldable pub size_fault : List ℕ → List ℕ → Result (Unit {0}) Refusal
size_fault cal work = first_refusal (size_rows cal work)

-- the work buffer, by the refusal of the rows that are asked before the calendar is unfolded:
-- as it was where one of them applies, else the unfolded calendar and behind it what was there
unfoldable pub work_by : Result (Unit {0}) Refusal → List ℕ → List ℕ → List ℕ
work_by (Ok _) cal work = unfolded cal ++ drop (length (unfolded cal)) work
work_by (Err r) cal work = work
