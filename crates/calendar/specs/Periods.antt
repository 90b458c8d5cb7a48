-- The periods of a FREEBUSY value from a place on, which a caller reads one after the other.
use Rattle.std.specs.Prelude.{ℕ, ◌+◌, ◌≤◌, ◌<◌, ◌≡◌, cond, List, [], ◌∷◌, ltb, length, drop, None, Option, Some}
use Rattle.values.specs.Period.{period_items, good_periods, PeriodSmall}
use Rattle.periods.specs.declared.Period.{Period}

-- the periods from a place on; from place 0 on they are all those of the value
unfoldable pub periods_from : List ℕ → ℕ → List Period
periods_from v from = good_periods (period_items (drop from v))

-- the place behind the separator at a place, or the end
unfoldable pub behind : List ℕ → ℕ → ℕ
behind v at = cond (ltb at (length v)) (at + 1) at

-- p is the first period from a place on, and those after it are read from `next` on
pub record NextPeriod (v : List ℕ) (from : ℕ) (p : Period) (next : ℕ) : Type 0 where
  pub onward : from < next
  pub within : next ≤ length v
  pub small : PeriodSmall p
  pub periods : periods_from v from ≡ p ∷ periods_from v next

-- no period is left
pub record NoPeriod (v : List ℕ) (from : ℕ) : Type 0 where
  pub periods : periods_from v from ≡ []

-- what a step from period to period answers
unfoldable pub PeriodAt : List ℕ → ℕ → Option (Period × ℕ) → Type 0
PeriodAt v from (Some (p, next)) = NextPeriod v from p next
PeriodAt v from None = NoPeriod v from
