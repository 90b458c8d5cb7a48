-- The value of FREEBUSY (document 01, Values): a comma list of UTC periods, each start/end or start/duration.
use Rattle.std.specs.Prelude.{ℕ, ◌+◌, ◌≤◌, ◌<◌, Bool, true, false, cond, ◌&&◌, List, [], ◌∷◌, map, ltb, length, None, Option, Some}
use Rattle.line.specs.Splitting.{first_outside, before, after, plain_split}
use Rattle.time.specs.DateTime.{read_date_time}
use Rattle.time.specs.Limits.{last_second, utc_second}
use Rattle.time.specs.Duration.{read_duration, duration_seconds}
use Rattle.time.specs.declared.date_time.DateTime.{DateTime}
use Rattle.time.specs.declared.date_time.Kind.{Kind}
use Rattle.time.specs.declared.duration.Duration.{Duration}
use Rattle.periods.specs.declared.Period.{Period}

-- a UTC DATE-TIME within the limits; a clock of another kind is none
abbrev pub utc_clock : Kind → ℕ → Option ℕ
utc_clock Kind.Utc clock = utc_second Kind.Utc clock 0
utc_clock Kind.Floating clock = None
utc_clock Kind.Date clock = None

unfoldable pub utc_by : Option DateTime → Option ℕ
utc_by (Some d) = utc_clock d.kind d.clock
utc_by None = None

unfoldable pub utc_at : List ℕ → Option ℕ
utc_at l = utc_by (read_date_time l)

-- the end: a stated one, or a duration after the start; a computed end may pass the limits
unfoldable pub end_by : ℕ → Option ℕ → Option Duration → Option ℕ
end_by s (Some e) d = Some e
end_by s None (Some d) = Some (s + duration_seconds d)
end_by s None None = None

-- the end is after the start
unfoldable pub period_to : ℕ → Option ℕ → Option Period
period_to s (Some e) = cond (ltb s e) (Some (record { start = s; end = e })) None
period_to s None = None

unfoldable pub period_from : Option ℕ → List ℕ → Option Period
period_from (Some s) l = period_to s (end_by s (utc_at l) (read_duration l))
period_from None l = None

-- start, slash, end or duration
unfoldable pub period_of : List ℕ → Option Period
period_of t = cond (ltb (first_outside false 47 false t) (length t)) (period_from (utc_at (before false 47 t)) (after false 47 t)) None

-- the periods stand between commas
unfoldable pub period_items : List ℕ → List (Option Period)
period_items v = map period_of (plain_split 44 v)

abbrev pub is_period : Option Period → Bool
is_period (Some p) = true
is_period None = false

unfoldable pub all_periods : List (Option Period) → Bool
all_periods [] = true
all_periods (p ∷ ps) = is_period p && all_periods ps

-- the periods of a list, those that are bad left out
unfoldable pub good_periods : List (Option Period) → List Period
good_periods [] = []
good_periods (Some p ∷ ps) = p ∷ good_periods ps
good_periods (None ∷ ps) = good_periods ps

-- how long a duration that is read can be
pub record DurationSmall (d : Duration) : Type 0 where
  pub few_days : d.days ≤ 100000000
  pub few_seconds : d.seconds ≤ 100000000000
  pub limited : duration_seconds d ≤ 315360000

-- how late a period can be: a duration may lead past the limits
pub record PeriodSmall (p : Period) : Type 0 where
  pub within_limits : p.start ≤ last_second
  pub rising : p.start < p.end
  pub soon_over : p.end ≤ last_second + 315360000
