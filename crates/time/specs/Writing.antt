-- Writing a UTC DATE-TIME (document 01, The report's bytes): the sixteen bytes YYYYMMDDTHHMMSSZ of a second within the limits.
use Rattle.std.specs.Prelude.{ℕ, zero, suc, ◌+◌, ◌-◌, ◌/◌, ◌%◌, ◌≤◌, ◌<◌, Bool, cond, ◌||◌, List, [], ◌∷◌, ◌++◌, leb, ltb, eqb}
use Rattle.ascii.specs.Bytes.{is_digit}
use Rattle.time.specs.declared.writing.Day.{Day}
use Rattle.time.specs.Days.{days_before_month, is_leap, year_days, days_before_year, before_in}

-- the year that n days from 1 January of the year y reach into, at most k years on: year by year, the days of each taken off
unfoldable pub year_from : ℕ → ℕ → ℕ → ℕ
year_from zero y n = y
year_from (suc k) y n = cond (ltb n (year_days y)) y (year_from k (suc y) (n - year_days y))

-- the year of a day since 1 January 1970, up to 2099
unfoldable pub year_of : ℕ → ℕ
year_of d = year_from 129 1970 d

-- for the reader: a day, counted from 1 January of year 0, is of the year y, which has begun and is not over; `year_iff` in proofs/WritingLaws
pub record YearIs (d y : ℕ) : Type 0 where
  pub has_begun : days_before_year y ≤ d
  pub not_over : d < days_before_year (y + 1)

-- the days of its year before a day since 1 January 1970
unfoldable pub day_of_year : ℕ → ℕ
day_of_year d = d + days_before_year 1970 - days_before_year (year_of d)

-- how many of the first k months have begun after n days of a year
unfoldable pub begun : Bool → ℕ → ℕ → ℕ
begun leap n zero = 0
begun leap n (suc k) = begun leap n k + cond (leb (before_in leap (suc k)) n) 1 0

-- the month that n days of a year reach into
unfoldable pub month_in : Bool → ℕ → ℕ
month_in leap n = begun leap n 12

-- year, month and day of a day since 1 January 1970
unfoldable pub day_of : ℕ → Day
day_of d =
    record {
      year = year_of d;
      month = month_in (is_leap (year_of d)) (day_of_year d);
      day = day_of_year d - days_before_month (year_of d) (month_in (is_leap (year_of d)) (day_of_year d)) + 1;
    }

-- the last decimal digit of a number
unfoldable pub digit : ℕ → ℕ
digit n = 48 + n % 10

-- two digits before what follows
abbrev pub two_digits : ℕ → List ℕ → List ℕ
two_digits n l = digit (n / 10) ∷ digit n ∷ l

-- YYYYMMDD and T
unfoldable pub date_text : Day → List ℕ
date_text d = two_digits (d.year / 100) (two_digits (d.year % 100) (two_digits d.month (two_digits d.day (84 ∷ []))))

-- HHMMSS and Z of a second of a day
unfoldable pub time_text : ℕ → List ℕ
time_text s = two_digits (s / 3600) (two_digits (s / 60 % 60) (two_digits (s % 60) (90 ∷ [])))

-- YYYYMMDDTHHMMSSZ
unfoldable pub utc_text : ℕ → List ℕ
utc_text t = date_text (day_of (t / 86400)) ++ time_text (t % 86400)

-- the bytes that such a text is made of
unfoldable pub is_utc_byte : ℕ → Bool
is_utc_byte b = is_digit b || eqb b 84 || eqb b 90
