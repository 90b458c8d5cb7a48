-- The limits of a second (document 01, Two questions): 19700101T000000Z is 0 and 20991231T235959Z the last.
-- The offset, -50,400 to 50,400, is given as a shift, 50,400 more than it.
use Rattle.std.specs.Prelude.{ℕ, ◌+◌, ◌-◌, ◌*◌, Bool, cond, ◌&&◌, leb, ltb, None, Option, Some}
use Rattle.time.specs.declared.date_time.Kind.{Kind}
use Rattle.time.specs.Days.{days_before_year}

-- the clock of 19700101T000000: the seconds of the days before 1970 (62,167,219,200 by the law `epoch_number`)
unfoldable pub epoch : ℕ
epoch = 86400 * days_before_year 1970

-- 20991231T235959Z
abbrev pub last_second : ℕ
last_second = 4102444799

-- a range: start before end, both within the limits
unfoldable pub range_good : ℕ → ℕ → Bool
range_good a b = ltb a b && leb b last_second

-- the seconds since a start, where they are within the limits
unfoldable pub since : ℕ → ℕ → Option ℕ
since start clock = cond (leb start clock && leb (clock - start) last_second) (Some (clock - start)) None

-- a floating clock, or a DATE's, is ahead of UTC by the offset, and a UTC clock by nothing
unfoldable pub utc_second : Kind → ℕ → ℕ → Option ℕ
utc_second Kind.Utc clock shift = since epoch clock
utc_second Kind.Floating clock shift = since (epoch - 50400 + shift) clock
utc_second Kind.Date clock shift = since (epoch - 50400 + shift) clock
