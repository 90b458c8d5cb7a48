-- Events and free-busy blocks as rows of twelve numbers: the row of each, and what a row says.
use Rattle.std.specs.Prelude.{ℕ, ◌+◌, ◌*◌, ◌≤◌, ◌<◌, ◌≡◌, cond, List, [], ◌∷◌, eqb, get_or, None, Option, Some}
use Rattle.time.specs.declared.date_time.Kind.{Kind}
use Rattle.periods.specs.declared.BusyType.{BusyType}
use Rattle.periods.specs.BusyTypes.{report_place}
use Rattle.events.specs.Events.{kind_number}
use Rattle.events.specs.declared.Ending.{Ending}
use Rattle.events.specs.declared.Repeat.{Repeat}
use Rattle.events.specs.declared.Event.{Event}
use Rattle.events.specs.declared.Block.{Block}
use Rattle.events.specs.declared.rows.EndingNumbers.{EndingNumbers}
use Rattle.events.specs.declared.rows.TaggedNumber.{TaggedNumber}

-- ---- as numbers

-- which ending it is, its second or its days, its seconds, and 1 where its duration names a time
unfoldable pub ending_numbers : Ending → EndingNumbers
ending_numbers (Ending.End t) = record { tag = 0; number = t; seconds = 0; timed = 0 }
ending_numbers (Ending.Lasts d) = record { tag = 1; number = d.days; seconds = d.seconds; timed = cond d.timed 1 0 }
ending_numbers Ending.None = record { tag = 2; number = 0; seconds = 0; timed = 0 }

-- how far it repeats, and the count or the last second
unfoldable pub repeat_numbers : Repeat → TaggedNumber
repeat_numbers Repeat.Once = record { tag = 0; number = 0 }
repeat_numbers Repeat.Forever = record { tag = 1; number = 0 }
repeat_numbers (Repeat.Count n) = record { tag = 2; number = n }
repeat_numbers (Repeat.Until t) = record { tag = 3; number = t }

-- whether it is given, and its second
unfoldable pub bound_numbers : Option ℕ → TaggedNumber
bound_numbers (Some t) = record { tag = 0; number = t }
bound_numbers None = record { tag = 1; number = 0 }

-- the row of an event; the last number says nothing
unfoldable pub event_row : Event → List ℕ
event_row e =
    kind_number e.kind
    ∷ e.start
    ∷ (ending_numbers e.ending).tag
    ∷ (ending_numbers e.ending).number
    ∷ (ending_numbers e.ending).seconds
    ∷ (ending_numbers e.ending).timed
    ∷ e.days
    ∷ e.interval
    ∷ (repeat_numbers e.repeat).tag
    ∷ (repeat_numbers e.repeat).number
    ∷ report_place e.busy
    ∷ 0
    ∷ []

-- the row of a block; the last eight numbers say nothing
unfoldable pub block_row : Block → List ℕ
block_row b =
    (bound_numbers b.start).tag
    ∷ (bound_numbers b.start).number
    ∷ (bound_numbers b.end).tag
    ∷ (bound_numbers b.end).number
    ∷ 0
    ∷ 0
    ∷ 0
    ∷ 0
    ∷ 0
    ∷ 0
    ∷ 0
    ∷ 0
    ∷ []

-- ---- by their numbers

-- the kind by its number
unfoldable pub kind_of : ℕ → Kind
kind_of tag = cond (eqb tag 0) Kind.Utc (cond (eqb tag 1) Kind.Floating Kind.Date)

-- the ending by its four numbers
unfoldable pub ending_of : ℕ → ℕ → ℕ → ℕ → Ending
ending_of tag number seconds timed =
    cond (eqb tag 0) (Ending.End number)
    (cond (eqb tag 1) (Ending.Lasts (record { days = number; seconds = seconds; timed = eqb timed 1 })) Ending.None)

-- how far an event repeats, by two numbers
unfoldable pub repeat_of : ℕ → ℕ → Repeat
repeat_of tag number =
    cond (eqb tag 0) Repeat.Once (cond (eqb tag 1) Repeat.Forever (cond (eqb tag 2) (Repeat.Count number) (Repeat.Until number)))

-- the busy type by its place in a report
unfoldable pub busy_of : ℕ → BusyType
busy_of place =
    cond (eqb place 0) BusyType.Busy (cond (eqb place 1) BusyType.Tentative (cond (eqb place 2) BusyType.Unavailable BusyType.Free))

-- the bound by its two numbers
unfoldable pub bound_of : ℕ → ℕ → Option ℕ
bound_of tag number = cond (eqb tag 0) (Some number) None

-- ---- in a column

-- the event of row k
unfoldable pub event_at : List ℕ → ℕ → Event
event_at column k =
    record {
      kind = kind_of (get_or column (12 * k) 0);
      start = get_or column (12 * k + 1) 0;
      ending = ending_of (get_or column (12 * k + 2) 0) (get_or column (12 * k + 3) 0) (get_or column (12 * k + 4) 0) (get_or column (12 * k + 5) 0);
      days = get_or column (12 * k + 6) 0;
      interval = get_or column (12 * k + 7) 0;
      repeat = repeat_of (get_or column (12 * k + 8) 0) (get_or column (12 * k + 9) 0);
      busy = busy_of (get_or column (12 * k + 10) 0);
    }

-- the block of row k
unfoldable pub block_at : List ℕ → ℕ → Block
block_at column k =
    record {
      start = bound_of (get_or column (12 * k) 0) (get_or column (12 * k + 1) 0);
      end = bound_of (get_or column (12 * k + 2) 0) (get_or column (12 * k + 3) 0);
    }

-- row k of the column became this row, and all other numbers are as they were
pub record EntryPut (old : List ℕ) (k : ℕ) (row new : List ℕ) : Type 0 where
  pub here : (p : ℕ) → p < 12 → get_or new (12 * k + p) 0 ≡ get_or row p 0
  pub before : (p : ℕ) → p < 12 * k → get_or new p 0 ≡ get_or old p 0
  pub behind : (p : ℕ) → 12 * k + 12 ≤ p → get_or new p 0 ≡ get_or old p 0
