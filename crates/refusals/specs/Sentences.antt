-- The sentence of each row that both calls have (document 01, Refusal numbers): number k applies, and its fault stands at line i, 0 where it has none.
use Rattle.std.specs.Prelude.{ℕ, ◌<◌, List, length}
use Rattle.text.specs.Lines.{cut}
use Rattle.line.specs.WellFormed.{FirstBad}
use Rattle.nesting.specs.Faults.{FaultAt}
use Rattle.values.specs.declared.times.Context.{Context}
use Rattle.property.specs.Facts.{ValueFault}
use Rattle.calendar.specs.Meaning.{file_lines, components_of}
use Rattle.calendar.specs.FirstFaults.{FirstFaulty, FirstBroken}

pub data SizeApplies (cal work : List ℕ) : ℕ → ℕ → Type 0 where
  -- more than 65,536 bytes of calendar
  calendar_long : 65536 < length cal → SizeApplies cal work 2 0
  -- a work buffer shorter than the calendar
  work_short : length work < length cal → SizeApplies cal work 3 0

-- of a calendar, by its unfolded bytes
pub data CalendarApplies (c : Context) (u : List ℕ) : ℕ → ℕ → Type 0 where
  -- line i is the first that is badly formed
  line_bad : (i : ℕ) → FirstBad 1 (cut u) i → CalendarApplies c u 6 i
  -- line i is the first after which nothing can keep the nesting rules, or comes after the last and is missing
  nesting_wrong : (i : ℕ) → FaultAt (file_lines u) i → CalendarApplies c u 7 i
  -- line i is the first with an unsupported thing or a bad value, and has the former
  unsupported : (i : ℕ) → FirstFaulty c ValueFault.unsupported (components_of u) i → CalendarApplies c u 8 i
  -- or the latter
  bad_value : (i : ℕ) → FirstFaulty c ValueFault.bad (components_of u) i → CalendarApplies c u 9 i
  -- the component that begins at line i is the first that breaks a rule
  rule_broken : (i : ℕ) → FirstBroken c (components_of u) i → CalendarApplies c u 10 i
