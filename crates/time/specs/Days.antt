-- Days of the Gregorian calendar (document 01, Values): counted year by year and month by month from 1 January of year 0.
use Rattle.std.specs.Prelude.{ℕ, zero, suc, ◌+◌, ◌-◌, ◌%◌, Bool, cond, not, ◌&&◌, ◌||◌, List, [], ◌∷◌, eqb, leb, get_or}

-- every fourth year, but of the hundreds only every fourth
unfoldable pub is_leap : ℕ → Bool
is_leap y = eqb (y % 4) 0 && not (eqb (y % 100) 0) || eqb (y % 400) 0

-- the days of a leap year or another
abbrev pub year_in : Bool → ℕ
year_in leap = cond leap 366 365

-- the days of a year
unfoldable pub year_days : ℕ → ℕ
year_days y = year_in (is_leap y)

-- the days before 1 January of a year: those of every year before it
unfoldable pub days_before_year : ℕ → ℕ
days_before_year zero = 0
days_before_year (suc y) = days_before_year y + year_days y

-- January is 1; a month 0, and one past 12, has no days
unfoldable pub month_lengths : List ℕ
month_lengths = 0 ∷ 31 ∷ 28 ∷ 31 ∷ 30 ∷ 31 ∷ 30 ∷ 31 ∷ 31 ∷ 30 ∷ 31 ∷ 30 ∷ 31 ∷ []

-- the days of a month, in a leap year or another
unfoldable pub length_in : Bool → ℕ → ℕ
length_in leap m = cond (eqb m 2 && leap) 29 (get_or month_lengths m 0)

-- the days of the year before a month: those of every month before it
unfoldable pub before_in : Bool → ℕ → ℕ
before_in leap zero = 0
before_in leap (suc m) = before_in leap m + length_in leap m

-- the days of a month of a year
unfoldable pub month_days : ℕ → ℕ → ℕ
month_days y m = length_in (is_leap y) m

-- the days of a year before one of its months
unfoldable pub days_before_month : ℕ → ℕ → ℕ
days_before_month y m = before_in (is_leap y) m

-- the days from 1 January of year 0 to a day
unfoldable pub day_number : ℕ → ℕ → ℕ → ℕ
day_number y m d = days_before_year y + days_before_month y m + (d - 1)

-- Values, Gregorian days: the month has such a day
unfoldable pub is_day : ℕ → ℕ → ℕ → Bool
is_day y m d = leb 1 d && leb d (month_days y m)
