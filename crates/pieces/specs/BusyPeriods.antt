-- The busy periods of a calendar (document 01, Busy type): every FREEBUSY period, and every instance that stands of each event, each with its type.
use Rattle.std.specs.Prelude.{ℕ, zero, suc, ◌-◌, ◌≡◌, true, false}
use mathlib.Core.List.{List, [], ◌∷◌, ◌++◌, Memᴰ}
use Rattle.time.specs.Limits.{epoch}
use Rattle.periods.specs.declared.BusyType.{BusyType}
use Rattle.periods.specs.Periods.{period}
use Rattle.events.specs.Events.{Entry, event, block}
use Rattle.periods.specs.BusyTypes.{BusyPeriod}
use Rattle.events.specs.declared.Event.{Event}
use Rattle.events.specs.declared.Block.{Block}
use Rattle.recurrence.specs.Instances.{start_of, end_of, occurs, TakesPlace, instances_at_most}

abbrev pub busy_period : BusyType → ℕ → ℕ → BusyPeriod
busy_period b s t = record { busy = b; period = period s t }

-- the lists of 0, 1, .., n - 1 after each other
unfoldable pub list_below : ℕ → (ℕ → List BusyPeriod) → List BusyPeriod
list_below zero f = []
list_below (suc n) f = list_below n f ++ f n

-- the second of a UTC clock; a clock before 1970 counts as second 0, since no second before it is asked for
abbrev pub second_of : ℕ → ℕ
second_of x = x - epoch

-- the time of instance k, with its type
abbrev pub instance_time : Event → ℕ → BusyPeriod
instance_time e k = busy_period e.busy (second_of (start_of e k)) (second_of (end_of e k))

-- instance k, where it stands
unfoldable pub instance_period : Event → List ℕ → ℕ → List BusyPeriod
instance_period e gone k = elim (occurs e gone k) [ true ↦ instance_time e k ∷ [] | false ↦ [] ]

unfoldable pub event_periods : Event → List ℕ → List BusyPeriod
event_periods e gone = list_below instances_at_most (instance_period e gone)

-- the periods that an entry states; a block's own ends are no busy time and do not clip them
unfoldable pub stated_periods : Entry → List BusyPeriod
stated_periods (event e gone) = []
stated_periods (block k ps) = ps

-- those of its instances
unfoldable pub instance_periods : Entry → List BusyPeriod
instance_periods (event e gone) = event_periods e gone
instance_periods (block k ps) = []

-- what each entry has, in file order
unfoldable pub gathered : (Entry → List BusyPeriod) → List Entry → List BusyPeriod
gathered f [] = []
gathered f (x ∷ xs) = f x ++ gathered f xs

-- the stated ones, then those of instances: which instances stand is known once the whole calendar is read
unfoldable pub busy_periods : List Entry → List BusyPeriod
busy_periods es = gathered stated_periods es ++ gathered instance_periods es

-- the same for the reader: p is an instance that takes place, or a FREEBUSY period
pub data IsBusyPeriod (es : List Entry) (p : BusyPeriod) : Type 0 where
  of_instance : (e : Event) (gone : List ℕ) → Memᴰ (event e gone) es → (k : ℕ) → TakesPlace e gone k → p ≡ instance_time e k
      → IsBusyPeriod es p
  of_block_holds : (k : Block) (ps : List BusyPeriod) → Memᴰ (block k ps) es → Memᴰ p ps → IsBusyPeriod es p
