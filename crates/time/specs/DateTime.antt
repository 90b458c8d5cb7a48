-- DATE and DATE-TIME values (document 01, Values): the text of a value to its kind and its clock,
-- the seconds since 00000101T000000 as the value's own clock counts them.
use Rattle.std.specs.Prelude.{ℕ, ◌+◌, ◌-◌, ◌*◌, cond, ◌&&◌, List, eqb, leb, length, get_or, None, Option, Some}
use Rattle.ascii.specs.Bytes.{is_digit, upper}
use Rattle.time.specs.declared.date_time.DateTime.{DateTime}
use Rattle.time.specs.declared.date_time.Kind.{Kind}
use Rattle.time.specs.Days.{is_day, day_number}

-- two digits
unfoldable pub digit_pair : ℕ → ℕ → Option ℕ
digit_pair a b = cond (is_digit a && is_digit b) (Some ((a - 48) * 10 + (b - 48))) None

-- the two digits at a place; past the end there is none
unfoldable pub pair_at : List ℕ → ℕ → Option ℕ
pair_at l i = digit_pair (get_or l i 0) (get_or l (i + 1) 0)

-- two pairs of digits as one number
unfoldable pub joined : Option ℕ → Option ℕ → Option ℕ
joined None b = None
joined (Some a) None = None
joined (Some a) (Some b) = Some (a * 100 + b)

-- YYYY
unfoldable pub year_at : List ℕ → Option ℕ
year_at l = joined (pair_at l 0) (pair_at l 2)

-- the number of a day, where the calendar has it
unfoldable pub checked_day : ℕ → ℕ → ℕ → Option ℕ
checked_day y m d = cond (is_day y m d) (Some (day_number y m d)) None

-- three numbers that a test takes or refuses
unfoldable pub three : (ℕ → ℕ → ℕ → Option ℕ) → Option ℕ → Option ℕ → Option ℕ → Option ℕ
three f None b c = None
three f (Some x) None c = None
three f (Some x) (Some y) None = None
three f (Some x) (Some y) (Some z) = f x y z

-- YYYYMMDD
unfoldable pub date_at : List ℕ → Option ℕ
date_at l = three checked_day (year_at l) (pair_at l 4) (pair_at l 6)

-- the second of the day: hours to 23, minutes to 59, seconds to 60, the last of which is taken for 59
unfoldable pub checked_time : ℕ → ℕ → ℕ → Option ℕ
checked_time h m s = cond (leb h 23 && leb m 59 && leb s 60) (Some (h * 3600 + m * 60 + cond (eqb s 60) 59 s)) None

-- HHMMSS, after the T
unfoldable pub time_at : List ℕ → Option ℕ
time_at l = three checked_time (pair_at l 9) (pair_at l 11) (pair_at l 13)

-- the clock at the start of a day
unfoldable pub midnight : Option ℕ → Option DateTime
midnight None = None
midnight (Some n) = Some (record { kind = Kind.Date; clock = n * 86400 })

-- a DATE: eight digits, the start of that day
unfoldable pub read_date : List ℕ → Option DateTime
read_date l = cond (eqb (length l) 8) (midnight (date_at l)) None

-- the clock of a day and a second of it
unfoldable pub clock_of : Kind → Option ℕ → Option ℕ → Option DateTime
clock_of kind None t = None
clock_of kind (Some n) None = None
clock_of kind (Some n) (Some t) = Some (record { kind = kind; clock = n * 86400 + t })

-- YYYYMMDDTHHMMSS
unfoldable pub clock_at : Kind → List ℕ → Option DateTime
clock_at kind l = cond (eqb (upper (get_or l 8 0)) 84) (clock_of kind (date_at l) (time_at l)) None

-- a DATE-TIME: fifteen bytes are floating, sixteen that end in Z are UTC
unfoldable pub read_date_time : List ℕ → Option DateTime
read_date_time l =
    cond (eqb (length l) 15) (clock_at Kind.Floating l)
    (cond (eqb (length l) 16 && eqb (upper (get_or l 15 0)) 90) (clock_at Kind.Utc l) None)
