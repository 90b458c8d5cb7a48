-- The day of a part's yearly rule (R-5): the n-th of a weekday in a month, by counting, and by division.
use Rattle.std.specs.Prelude.{ℕ, zero, suc, ◌+◌, ◌-◌, ◌*◌, ◌%◌, ◌≤◌, ◌<◌, ◌≡◌, Bool, true, false, cond, eqb, ltb, None, Option, Some}
use Rattle.time.specs.Days.{days_before_year, days_before_month, month_days}
use Rattle.zones.specs.declared.Part.{Part}

-- ---- for the reader

-- the weekday of a day counted from 1 January of year 0, which was a Saturday; Sunday is 0
abbrev pub weekday_of : ℕ → ℕ
weekday_of d = (d + 6) % 7

-- how many of the n days from s on have the weekday w
unfoldable pub weekdays_in : ℕ → ℕ → ℕ → ℕ
weekdays_in w s zero = 0
weekdays_in w s (suc n) = weekdays_in w s n + cond (eqb (weekday_of (s + n)) w) 1 0

-- d is the day of weekday w, among the n days from s on, that has k others of that weekday before it, or, counted from the end, behind it
pub record NthWeekday (s n w k : ℕ) (back : Bool) (d : ℕ) : Type 0 where
  pub not_before : s ≤ d
  pub not_past : d < s + n
  pub on_weekday : weekday_of d ≡ w
  pub counted : cond back (weekdays_in w (d + 1) (s + n - (d + 1))) (weekdays_in w s (d - s)) ≡ k

-- BYMONTH and BYDAY: the day of a part's rule in a year. Month 0 has no days, so a part without a rule has no such day
abbrev pub RuleDay : Part → ℕ → ℕ → Type 0
RuleDay p y d = NthWeekday (days_before_year y + days_before_month y p.month) (month_days y p.month) p.weekday p.others p.back d

-- ---- computed

-- from the first day to the day that is meant; from that day to the last
abbrev pub days_ahead : ℕ → ℕ → ℕ → ℕ
days_ahead s w k = (w + 7 - (s + 6) % 7) % 7 + 7 * k

abbrev pub days_behind : ℕ → ℕ → ℕ → ℕ → ℕ
days_behind s n w k = ((s + n + 5) % 7 + 7 - w) % 7 + 7 * k

unfoldable pub nth_weekday : ℕ → ℕ → ℕ → ℕ → Bool → Option ℕ
nth_weekday s n w k true = cond (ltb (days_behind s n w k) n) (Some (s + n - 1 - days_behind s n w k)) None
nth_weekday s n w k false = cond (ltb (days_ahead s w k) n) (Some (s + days_ahead s w k)) None

unfoldable pub rule_day : Part → ℕ → Option ℕ
rule_day p y = nth_weekday (days_before_year y + days_before_month y p.month) (month_days y p.month) p.weekday p.others p.back
