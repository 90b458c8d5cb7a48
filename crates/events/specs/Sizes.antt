-- How large the numbers of an event and of a block are, for sums and products over them.
use Rattle.std.specs.Prelude.{ℕ, ◌≤◌, ◌<◌}
use mathlib.Core.List.{List, Memᴰ}
use Rattle.time.specs.Limits.{last_second}
use Rattle.values.specs.Period.{DurationSmall}
use Rattle.events.specs.Events.{Entry, event}
use Rattle.events.specs.declared.Ending.{Ending}
use Rattle.events.specs.declared.Repeat.{Repeat}
use Rattle.events.specs.declared.Event.{Event}

-- of an event that starts at this second
abbrev pub EndingSmall : ℕ → Ending → Type 0
EndingSmall s (Ending.End e) = (s < e) × (e ≤ last_second)
EndingSmall s (Ending.Lasts d) = DurationSmall d
EndingSmall s Ending.None = Unit {0}

abbrev pub RepeatSmall : ℕ → Repeat → Type 0
RepeatSmall s Repeat.Once = Unit {0}
RepeatSmall s Repeat.Forever = Unit {0}
RepeatSmall s (Repeat.Count n) = (1 ≤ n) × (n ≤ 9999)
RepeatSmall s (Repeat.Until t) = (s ≤ t) × (t ≤ last_second)

pub record EventSmall (e : Event) : Type 0 where
  pub start_small : e.start ≤ last_second
  pub some_days : 1 ≤ e.days
  pub few_days : e.days ≤ 7
  pub some_interval : 1 ≤ e.interval
  pub few_interval : e.interval ≤ 999
  pub ending_small : EndingSmall e.start e.ending
  pub repeat_small : RepeatSmall e.start e.repeat

-- every event of a calendar is
abbrev pub EventsSmall : List Entry → Type 0
EventsSmall es = (e : Event) (gone : List ℕ) → Memᴰ (event e gone) es → EventSmall e
