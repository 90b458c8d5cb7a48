-- A second written as a UTC DATE-TIME: year, month and day of its day, its length and bytes,
-- and that it reads as that second.
use Rattle.std.specs.Prelude.{Option, Some}
use Prim.Native.Nat.{ℕ, zero, suc, ◌+◌, ◌-◌, ◌*◌, ◌/◌, ◌≤◌, ◌<◌, ◌%◌}
use mathlib.Core.Path.{◌≡◌, refl, sym, ap, subst, ◌∙◌}
use mathlib.Core.Bool.{Bool, true, false, cond, not, ◌&&◌, ◌||◌}
use mathlib.Core.List.{List, ◌++◌}
use mathlib.Core.Logic.{◌↔◌}
use native.Mathlib.Omega.{arith}
use native.Mathlib.Decide.{dec_lt}
use lib.Dec.{eqb, ltb, leb}
use lib.ListN.{length}
use lib.Seq.{sets}
use borrow.Author.Tests.{eqb-true, eqb-false, leb-true, ltb-true, ltb-false, le-leb, ne_eqb}
use Rattle.ascii.specs.Bytes.{is_digit, upper}
use Rattle.ascii.specs.Names.{every}
use Rattle.ascii.proofs.Bools.{and_left, and_right}
use Rattle.ascii.proofs.Bytes.{inside}
use Rattle.time.specs.declared.date_time.DateTime.{DateTime}
use Rattle.time.specs.declared.date_time.Kind.{Kind}
use Rattle.time.specs.declared.writing.Day.{Day}
use Rattle.time.specs.Days.{is_leap, year_in, year_days, days_before_year, month_lengths, length_in, before_in, days_before_month, month_days, is_day, day_number}
use Rattle.time.specs.Writing.{year_from, year_of, YearIs, day_of_year, begun, month_in, day_of, digit, date_text, time_text, utc_text, is_utc_byte}
use Rattle.time.specs.DateTime.{digit_pair, pair_at, joined, year_at, checked_day, three, date_at, checked_time, time_at, read_date_time}
use Rattle.time.specs.Limits.{epoch, last_second}
use Rattle.time.proofs.Below.{below, between}
use Rattle.time.proofs.DaysLaws.{sum_direct, days_before_year_direct, epoch_day, month_days_small}
use Rattle.time.proofs.LimitsLaws.{epoch_number}
use Rattle.time.proofs.DateTime.{clock_at_of, read_date_time_utc}
use Rattle.time.proofs.Stores.{sets_append}

-- the month by a division by 2048, computed at every day of a year
pub month_in_early : (leap : Bool) (n : ℕ) → n < 59 → (67 * n + 2048) / 2048 ≡ month_in leap n
unfolding month_in begun before_in length_in month_lengths
month_in_early true n h = eqb-true _ _ (below (λ n. eqb ((67 * n + 2048) / 2048) (month_in true n)) 59 refl n h)
month_in_early false n h = eqb-true _ _ (below (λ n. eqb ((67 * n + 2048) / 2048) (month_in false n)) 59 refl n h)

month_in_late : (leap : Bool) (n : ℕ) → 59 ≤ n → n < year_in leap → (67 * n + cond leap 2148 2215) / 2048 ≡ month_in leap n
unfolding month_in begun before_in length_in month_lengths
month_in_late true n h k = eqb-true _ _ (between (λ n. eqb ((67 * n + 2148) / 2048) (month_in true n)) 59 366 refl n h k)
month_in_late false n h k = eqb-true _ _ (between (λ n. eqb ((67 * n + 2215) / 2048) (month_in false n)) 59 365 refl n h k)

pub month_in_by : (leap t : Bool) (n : ℕ) → leap ≡ t → 59 ≤ n → n < year_in leap → (67 * n + cond t 2148 2215) / 2048 ≡ month_in leap n
month_in_by leap t n e h k = rw (← e) (month_in_late leap n h k)

-- n days of a year reach into the month m
abbrev reaches : Bool → ℕ → ℕ → Bool
reaches leap n m = leb 1 m && leb m 12 && leb (before_in leap m) n && ltb n (before_in leap m + length_in leap m)

month_in_reached : (leap : Bool) (n : ℕ) → n < year_in leap → reaches leap n (month_in leap n) ≡ true
unfolding month_in begun before_in length_in month_lengths
month_in_reached true n h = below (λ n. reaches true n (month_in true n)) 366 refl n h
month_in_reached false n h = below (λ n. reaches false n (month_in false n)) 365 refl n h

-- the month is one of the twelve, has begun, and is not over
pub record Reached (leap : Bool) (n m : ℕ) : Type 0 where
  pub first : 1 ≤ m
  pub last : m ≤ 12
  pub has_begun : before_in leap m ≤ n
  pub not_over : n < before_in leap m + length_in leap m

pub month_in_there : (leap : Bool) (n : ℕ) → n < year_in leap → Reached leap n (month_in leap n)
month_in_there leap n h = go (month_in leap n) (month_in_reached leap n h)
  where
    go : (m : ℕ) → reaches leap n m ≡ true → Reached leap n m
    go m e =
        let a : (leb 1 m && leb m 12 && leb (before_in leap m) n) ≡ true = and_left _ (ltb n (before_in leap m + length_in leap m)) e in
        let b : (leb 1 m && leb m 12) ≡ true = and_left (leb 1 m && leb m 12) (leb (before_in leap m) n) a in
        record {
          first = leb-true 1 m (and_left (leb 1 m) (leb m 12) b);
          last = leb-true m 12 (and_right (leb 1 m) (leb m 12) b);
          has_begun = leb-true _ _ (and_right (leb 1 m && leb m 12) (leb (before_in leap m) n) a);
          not_over = ltb-true _ _ (and_right (leb 1 m && leb m 12 && leb (before_in leap m) n) (ltb n (before_in leap m + length_in leap m)) e);
        }

-- between 1970 and 2100 every fourth year is a leap year
near : (y : ℕ) → 1970 ≤ y → y ≤ 2100 → days_before_year y + 15 ≡ 365 * y + (y + 3) / 4
near y h k = go (dec_lt 2000 y)
  where
    go : Dec (2000 < y) → days_before_year y + 15 ≡ 365 * y + (y + 3) / 4
    go (yes p) = let a : (y + 399) / 400 ≡ 6 = omega arith in let b : (y + 99) / 100 ≡ 21 = omega arith in omega (arith, sum_direct y)
    go (no p) = let a : (y + 399) / 400 ≡ 5 = omega arith in let b : (y + 99) / 100 ≡ 20 = omega arith in omega (arith, sum_direct y)

next_year : (y : ℕ) → days_before_year (suc y) ≡ days_before_year y + year_days y
unfolding days_before_year
next_year y = refl

-- the year by a division, between 1970 and 2099
direct_there : (d : ℕ) → d ≤ 47481 → YearIs (d + days_before_year 1970) (1970 + (4 * d + 2) / 1461)
direct_there d h =
    let q : (4 * d + 2) / 1461 ≤ 129 = omega arith in
    let a : days_before_year (1970 + (4 * d + 2) / 1461) + 15 ≡ 365 * (1970 + (4 * d + 2) / 1461) + (1970 + (4 * d + 2) / 1461 + 3) / 4 = near _ (omega arith) (omega arith) in
    let b : days_before_year (1970 + (4 * d + 2) / 1461 + 1) + 15 ≡ 365 * (1970 + (4 * d + 2) / 1461 + 1) + (1970 + (4 * d + 2) / 1461 + 1 + 3) / 4 = near _ (omega arith) (omega arith) in
    record { has_begun = omega (arith, epoch_day); not_over = omega (arith, epoch_day) }

-- counted year by year it has begun and is not over, where the years counted go as far
year_reached : (k y n d : ℕ) → d ≡ days_before_year y + n → d < days_before_year (k + suc y) → YearIs d (year_from k y n)
unfolding year_from
year_reached zero y n d e h =
    let z : y + 1 ≡ zero + suc y = omega arith in
    record { has_begun = omega arith; not_over = omega (arith, ap days_before_year z) }
year_reached (suc k) y n d e h = go (ltb n (year_days y)) refl (λ f g. year_reached k (suc y) (n - year_days y) d f g)
  where
    go : (t : Bool) → ltb n (year_days y) ≡ t → (d ≡ days_before_year (suc y) + (n - year_days y) → d < days_before_year (k + suc (suc y)) → YearIs d (year_from k (suc y) (n - year_days y)))
        → YearIs d (cond t y (year_from k (suc y) (n - year_days y)))
    go true t on =
        let z : y + 1 ≡ suc y = omega arith in
        record { has_begun = omega arith; not_over = omega (arith, ltb-true n (year_days y) t, next_year y, ap days_before_year z) }
    go false t on =
        let z : k + suc (suc y) ≡ suc k + suc y = omega arith in
        on (omega (arith, ltb-false n (year_days y) t, next_year y)) (omega (arith, ap days_before_year z))

year_there : (d : ℕ) → d ≤ 47481 → YearIs (d + days_before_year 1970) (year_of d)
unfolding year_of
year_there d h = year_reached 129 1970 d (d + days_before_year 1970) (omega arith) (omega (arith, epoch_day, days_before_year_direct 2100))

-- years rise
years_rise : (y n : ℕ) → days_before_year y ≤ days_before_year (n + y)
years_rise y zero = omega (arith, ap days_before_year (let z : zero + y ≡ y = omega arith in z))
years_rise y (suc n) = omega (arith, years_rise y n, next_year (n + y), ap days_before_year (let z : suc n + y ≡ suc (n + y) = omega arith in z))

-- a year that is not over is no earlier than one that has begun
no_earlier : (d y z : ℕ) → YearIs d y → YearIs d z → z ≤ y
no_earlier d y z g h = go (dec_lt y z)
  where
    go : Dec (y < z) → z ≤ y
    go (no n) = omega (arith, n)
    go (yes l) =
        let e : z - (y + 1) + (y + 1) ≡ z = omega arith in
        absurd (omega (arith, g.not_over, h.has_begun, years_rise (y + 1) (z - (y + 1)), ap days_before_year e))

-- the year of a day is the one that has begun and is not over
pub year_iff : (d y : ℕ) → d ≤ 47481 → (year_of d ≡ y) ↔ YearIs (d + days_before_year 1970) y
year_iff d y h = (
  λ e. subst (YearIs (d + days_before_year 1970)) e (year_there d h),
  λ g. let t = year_there d h in let a = no_earlier _ y (year_of d) g t in let b = no_earlier _ (year_of d) y t g in omega (arith, a, b),
)

-- with no loop and no table
pub year_of_direct : (d : ℕ) → d ≤ 47481 → year_of d ≡ 1970 + (4 * d + 2) / 1461
year_of_direct d h = (year_iff d (1970 + (4 * d + 2) / 1461) h).1 (direct_there d h)

-- the year of a day by what later laws ask of it
record InYear (d : ℕ) : Type 0 where
  to_2099 : year_of d ≤ 2099
  year_begun : days_before_year (year_of d) ≤ d + 719528
  year_not_over : d + 719528 < days_before_year (year_of d) + year_days (year_of d)

year_of_there : (d : ℕ) → d ≤ 47481 → InYear d
year_of_there d h =
    let t = year_there d h in
    let z : year_of d + 1 ≡ suc (year_of d) = omega arith in
    record {
      to_2099 = omega (arith, year_of_direct d h);
      year_begun = omega (arith, t.has_begun, epoch_day);
      year_not_over = omega (arith, t.not_over, epoch_day, next_year (year_of d), ap days_before_year z);
    }

-- the days of its year before a day
pub day_of_year_there : (d : ℕ) → d ≤ 47481 → day_of_year d < year_days (year_of d)
unfolding day_of_year
day_of_year_there d h = omega (arith, epoch_day, (year_of_there d h).year_begun, (year_of_there d h).year_not_over)

-- between 1970 and 2099 every fourth year is a leap year
near_leap : (y : ℕ) → 1970 ≤ y → y ≤ 2099 → eqb (y % 4) 0 ≡ is_leap y
unfolding is_leap
near_leap y h k = go (eqb (y % 4) 0) refl
  where
    go : (t : Bool) → eqb (y % 4) 0 ≡ t → t ≡ (t && not (eqb (y % 100) 0) || eqb (y % 400) 0)
    go true e = century (dec_lt 1999 y) (dec_lt 2000 y)
      where
        century : Dec (1999 < y) → Dec (2000 < y) → true ≡ (not (eqb (y % 100) 0) || eqb (y % 400) 0)
        century (yes p) (no q) = let z : y ≡ 2000 = omega arith in rw z
        century (yes p) (yes q) = rw (ne_eqb (y % 100) 0 (omega arith))
        century (no p) q = rw (ne_eqb (y % 100) 0 (omega arith))
    go false e = rw (ne_eqb (y % 400) 0 (λ z. eqb-false (y % 4) 0 e (omega (arith, z))))

-- the parts that a day is computed from: its year, the days of that year before it, and whether that is a leap year
pub record Parts (d y n : ℕ) (leap : Bool) : Type 0 where
  pub year_of_holds : y ≡ year_of d
  pub days_of : n ≡ day_of_year d
  pub leap_of : leap ≡ is_leap (year_of d)
  pub in_year : n < year_in leap

pub parts_direct : (d : ℕ) → d ≤ 47481 → Parts d (1970 + (4 * d + 2) / 1461) ((4 * d + 2) % 1461 / 4) (eqb ((1970 + (4 * d + 2) / 1461) % 4) 0)
unfolding day_of_year year_days
parts_direct d h =
    let e = year_of_direct d h in
    let q : (4 * d + 2) / 1461 ≤ 129 = omega arith in
    let leap = near_leap (1970 + (4 * d + 2) / 1461) (omega arith) (omega arith) ∙ ap is_leap (sym e) in
    let a : days_before_year (1970 + (4 * d + 2) / 1461) + 15 ≡ 365 * (1970 + (4 * d + 2) / 1461) + (1970 + (4 * d + 2) / 1461 + 3) / 4 = near _ (omega arith) (omega arith) in
    let n : (4 * d + 2) % 1461 / 4 ≡ d + days_before_year 1970 - days_before_year (year_of d) = omega (arith, a, epoch_day, ap days_before_year e) in
    record {
      year_of_holds = sym e;
      days_of = n;
      leap_of = leap;
      in_year = rw (leap, n) (day_of_year_there d h);
    }

-- the month that such parts reach is one of the twelve, and has begun
pub month_fits : (d y n m : ℕ) (leap : Bool) → Parts d y n leap → m ≡ month_in leap n → (m ≤ 12) × (before_in leap m ≤ n)
month_fits d y n m leap p e = let r = month_in_there leap n p.in_year in rw e (r.last, r.has_begun)

-- what is computed of a day, part by part, is the day
pub day_of_made : (d y n a m : ℕ) (leap : Bool) → Parts d y n leap → m ≡ month_in leap n → a ≡ before_in leap m
    → record { year = y; month = m; day = n - a + 1 } ≡ day_of d
unfolding day_of days_before_month
day_of_made d y n a m leap p r s = rw (s, r, p.leap_of, p.days_of, p.year_of_holds)

-- the date, and behind it the time
pub written_parts : (o p q : List ℕ) (a t : ℕ) (d : Day) → d ≡ day_of (t / 86400) → p ≡ sets o a (date_text d) → q ≡ sets p (a + 9) (time_text (t % 86400))
    → q ≡ sets o a (utc_text t)
unfolding utc_text date_text
written_parts o p q a t d e f g = rw (g, f, e) (sets_append o (date_text (day_of (t / 86400))) (time_text (t % 86400)) a 9 refl)

-- sixteen bytes
pub utc_text_length : (t : ℕ) → length (utc_text t) ≡ 16
unfolding utc_text date_text time_text
utc_text_length t = refl

-- digits, T and Z
digit_is : (n : ℕ) → is_digit (digit n) ≡ true
unfolding is_digit digit
digit_is n = inside 48 57 (48 + n % 10) (omega arith) (omega arith)

digit_byte : (n : ℕ) → is_utc_byte (digit n) ≡ true
unfolding is_utc_byte
digit_byte n = rw (digit_is n)

marks : (is_utc_byte 84 && (is_utc_byte 90 && true)) ≡ true
unfolding is_utc_byte is_digit
marks = refl

pub utc_text_bytes : (t : ℕ) → every is_utc_byte (utc_text t) ≡ true
unfolding utc_text date_text time_text
utc_text_bytes t = simp digit_byte marks

-- two digits written read as their number
pair_value : (n : ℕ) → n ≤ 99 → (digit (n / 10) - 48) * 10 + (digit n - 48) ≡ n
unfolding digit
pair_value n h = omega arith

pair_read : (n : ℕ) → n ≤ 99 → digit_pair (digit (n / 10)) (digit n) ≡ Some n
unfolding digit_pair
pair_read n h = rw (digit_is (n / 10), digit_is n) (ap Some (pair_value n h))

-- a date written reads as its day's number, whatever follows
date_read : (d : Day) (l : List ℕ) → d.year ≤ 9999 → d.month ≤ 99 → d.day ≤ 99 → date_at (date_text d ++ l) ≡ checked_day d.year d.month d.day
unfolding date_at year_at pair_at date_text three joined
date_read d l h k m =
    rw (pair_read (d.year / 100) (omega arith), pair_read (d.year % 100) (omega arith), pair_read d.month k, pair_read d.day m)
    (ap (λ (y : ℕ). checked_day y d.month d.day) (let z : d.year / 100 * 100 + d.year % 100 ≡ d.year = omega arith in z))

-- a time written behind it reads as its second
time_sum : (s : ℕ) → s / 3600 * 3600 + s / 60 % 60 * 60 + s % 60 ≡ s
time_sum s = omega arith

time_checked : (s : ℕ) → s < 86400 → checked_time (s / 3600) (s / 60 % 60) (s % 60) ≡ Some s
unfolding checked_time
time_checked s h =
    rw (le-leb (s / 3600) 23 (omega arith), le-leb (s / 60 % 60) 59 (omega arith), le-leb (s % 60) 60 (omega arith), ne_eqb (s % 60) 60 (omega arith))
    (ap Some (time_sum s))

time_read : (d : Day) (s : ℕ) → s < 86400 → time_at (date_text d ++ time_text s) ≡ Some s
unfolding time_at pair_at date_text time_text three
time_read d s h =
    rw (pair_read (s / 3600) (omega arith), pair_read (s / 60 % 60) (omega arith), pair_read (s % 60) (omega arith)) (time_checked s h)

-- n days into a year: a day of the month that they reach, with its own number
day_there : (y m n : ℕ) → Reached (is_leap y) n m → checked_day y m (n - days_before_month y m + 1) ≡ Some (days_before_year y + n)
unfolding checked_day is_day day_number month_days days_before_month
day_there y m n h =
    let p : 1 ≤ n - before_in (is_leap y) m + 1 = omega arith in
    let q : n - before_in (is_leap y) m + 1 ≤ length_in (is_leap y) m = omega (arith, h.has_begun, h.not_over) in
    let z : days_before_year y + before_in (is_leap y) m + (n - before_in (is_leap y) m + 1 - 1) ≡ days_before_year y + n = omega (arith, h.has_begun) in
    rw (le-leb 1 (n - before_in (is_leap y) m + 1) p, le-leb (n - before_in (is_leap y) m + 1) (length_in (is_leap y) m) q) (ap Some z)

day_small : (y m n : ℕ) → Reached (is_leap y) n m → n - days_before_month y m + 1 ≤ 31
unfolding month_days days_before_month
day_small y m n h = omega (arith, h.has_begun, h.not_over, month_days_small y m h.last)

days_left : (d : ℕ) → d ≤ 47481 → day_of_year d < year_in (is_leap (year_of d))
unfolding year_days
days_left d h = day_of_year_there d h

from_start : (d : ℕ) → d ≤ 47481 → days_before_year (year_of d) + day_of_year d ≡ d + 719528
unfolding day_of_year
from_start d h = omega (arith, epoch_day, (year_of_there d h).year_begun)

-- a day between 1970 and 2099 is a day of the calendar
record Proper (d : ℕ) : Type 0 where
  year_small : (day_of d).year ≤ 9999
  month_small : (day_of d).month ≤ 99
  day_small : (day_of d).day ≤ 99
  numbered : checked_day (day_of d).year (day_of d).month (day_of d).day ≡ Some (d + 719528)

day_of_proper : (d : ℕ) → d ≤ 47481 → Proper d
unfolding day_of
day_of_proper d h =
    let y : InYear d = year_of_there d h in
    let r : Reached (is_leap (year_of d)) (day_of_year d) (month_in (is_leap (year_of d)) (day_of_year d)) = month_in_there (is_leap (year_of d)) (day_of_year d) (days_left d h) in
    record {
      year_small = omega (arith, y.to_2099);
      month_small = omega (arith, r.last);
      day_small = omega (arith, day_small (year_of d) (month_in (is_leap (year_of d)) (day_of_year d)) (day_of_year d) r);
      numbered = day_there (year_of d) (month_in (is_leap (year_of d)) (day_of_year d)) (day_of_year d) r ∙ ap Some (from_start d h);
    }

-- a date, T, a time and Z
clock_read : (d : Day) (s n : ℕ) → date_at (date_text d ++ time_text s) ≡ Some n → time_at (date_text d ++ time_text s) ≡ Some s
    → Some (record { kind = Kind.Utc; clock = n * 86400 + s }) ≡ read_date_time (date_text d ++ time_text s)
unfolding upper date_text time_text
clock_read d s n e f =
    clock_at_of Kind.Utc (date_text d ++ time_text s) 84 n s refl refl e f
    ∙ read_date_time_utc (date_text d ++ time_text s) 90 refl refl refl

clock_sum : (t : ℕ) → (t / 86400 + 719528) * 86400 + t % 86400 ≡ t + epoch
clock_sum t = omega (arith, epoch_number)

-- what is written of a second reads as its clock
pub read_written : (t : ℕ) → t ≤ last_second → read_date_time (utc_text t) ≡ Some (record { kind = Kind.Utc; clock = t + epoch })
unfolding utc_text
read_written t h =
    let d : t / 86400 ≤ 47481 = omega arith in
    let p : Proper (t / 86400) = day_of_proper (t / 86400) d in
    let s : t % 86400 < 86400 = omega arith in
    let e : date_at (date_text (day_of (t / 86400)) ++ time_text (t % 86400)) ≡ Some (t / 86400 + 719528) =
    date_read (day_of (t / 86400)) (time_text (t % 86400)) p.year_small p.month_small p.day_small ∙ p.numbered in
    sym (clock_read (day_of (t / 86400)) (t % 86400) (t / 86400 + 719528) e (time_read (day_of (t / 86400)) (t % 86400) s))
    ∙ ap (λ (c : ℕ). Some (record { kind = Kind.Utc; clock = c })) (clock_sum t)

-- a text that reads as one second is no other second's
pub utc_text_one : (t u : ℕ) → t ≤ last_second → u ≤ last_second → utc_text t ≡ utc_text u → t ≡ u
utc_text_one t u h k e =
    let z : ◌≡◌ {A = Option DateTime} (Some (record { kind = Kind.Utc; clock = t + epoch })) (Some (record { kind = Kind.Utc; clock = u + epoch })) =
    sym (read_written t h) ∙ ap read_date_time e ∙ read_written u k in
    let d : ◌≡◌ {A = DateTime} (record { kind = Kind.Utc; clock = t + epoch }) (record { kind = Kind.Utc; clock = u + epoch }) = cc in
    let w : t + epoch ≡ u + epoch = ap (λ (x : DateTime). x.clock) d in
    omega arith
