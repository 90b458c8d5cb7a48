-- Ways out of the readers of DATE and DATE-TIME, and how large what they read can be.
use Rattle.std.specs.Prelude.{None, Option, Some}
use Prim.Native.Nat.{ℕ, ◌+◌, ◌-◌, ◌*◌, ◌≤◌, ◌<◌}
use mathlib.Core.Path.{◌≡◌, refl, sym, ◌∙◌}
use mathlib.Core.Bool.{Bool, true, false, cond, ◌&&◌}
use mathlib.Core.List.{List}
use native.Mathlib.Omega.{arith}
use lib.Dec.{eqb, leb}
use lib.ListN.{length, get_or}
use borrow.Author.Tests.{leb-true, le-leb, lt-leb, eq-eqb, ne_eqb, eqb-false}
use Rattle.ascii.specs.Bytes.{is_digit, upper}
use Rattle.ascii.proofs.Bools.{and_left, and_right}
use Rattle.time.specs.declared.date_time.Kind.{Kind}
use Rattle.time.specs.Days.{is_day, day_number, month_days, days_before_year, days_before_month}
use Rattle.time.specs.DateTime.{digit_pair, pair_at, joined, year_at, checked_day, three, date_at, checked_time, time_at, midnight, read_date, clock_of, clock_at, read_date_time}
use Rattle.time.proofs.DaysLaws.{days_before_year_small, days_before_month_small, month_days_month, month_days_small}

-- a digit is 48 to 57
pub digit_range : (b : ℕ) → is_digit b ≡ true → (48 ≤ b) × (b ≤ 57)
unfolding is_digit
digit_range b e = (leb-true 48 b (and_left (leb 48 b) (leb b 57) e), leb-true b 57 (and_right (leb 48 b) (leb b 57) e))

-- two tests that both hold are tests of two digits
pub both_digits : (a b : ℕ) (x y : Bool) → x ≡ is_digit a → y ≡ is_digit b → (x && y) ≡ true → (48 ≤ a) × (a ≤ 57) × (48 ≤ b) × (b ≤ 57)
both_digits a b x y p q t =
    let h : (48 ≤ a) × (a ≤ 57) = digit_range a (sym p ∙ and_left x y t) in
    let k : (48 ≤ b) × (b ≤ 57) = digit_range b (sym q ∙ and_right x y t) in
    (h.0, h.1, k.0, k.1)

pub digit_pair_of : (a b : ℕ) (x y : Bool) → x ≡ is_digit a → y ≡ is_digit b → (x && y) ≡ true → Some ((a - 48) * 10 + (b - 48)) ≡ digit_pair a b
unfolding digit_pair
digit_pair_of a b x y p q t = rw (← p, ← q, t)

pub digit_pair_bad : (a b : ℕ) (x y : Bool) → x ≡ is_digit a → y ≡ is_digit b → (x && y) ≡ false → None ≡ digit_pair a b
unfolding digit_pair
digit_pair_bad a b x y p q t = rw (← p, ← q, t)

-- two digits make at most 99
pub pair_at_small : (l : List ℕ) (i n : ℕ) → pair_at l i ≡ Some n → n ≤ 99
unfolding pair_at digit_pair
pair_at_small l i n e = go (is_digit (get_or l i 0) && is_digit (get_or l (i + 1) 0)) refl e
  where
    go : (t : Bool) → (is_digit (get_or l i 0) && is_digit (get_or l (i + 1) 0)) ≡ t
        → cond t (Some ((get_or l i 0 - 48) * 10 + (get_or l (i + 1) 0 - 48))) None ≡ Some n → n ≤ 99
    go true t e =
        let h : (get_or l i 0 - 48) * 10 + (get_or l (i + 1) 0 - 48) ≡ n = cc in
        omega (arith, both_digits (get_or l i 0) (get_or l (i + 1) 0) _ _ refl refl t)
    go false t e = let z : ◌≡◌ {A = ℕ} 0 1 = cc in absurd (omega arith)

-- two or three numbers: the first that is bad, or all good
pub joined_first : (a b : Option ℕ) → a ≡ None → None ≡ joined a b
unfolding joined
joined_first a b e = rw e

pub joined_second : (a b : Option ℕ) {x : ℕ} → a ≡ Some x → b ≡ None → None ≡ joined a b
unfolding joined
joined_second a b e f = rw (e, f)

pub joined_both : (a b : Option ℕ) {x y : ℕ} → a ≡ Some x → b ≡ Some y → Some (x * 100 + y) ≡ joined a b
unfolding joined
joined_both a b e f = rw (e, f)

pub three_first : (f : ℕ → ℕ → ℕ → Option ℕ) (a b c : Option ℕ) → a ≡ None → None ≡ three f a b c
unfolding three
three_first f a b c e = rw e

pub three_second : (f : ℕ → ℕ → ℕ → Option ℕ) (a b c : Option ℕ) {x : ℕ} → a ≡ Some x → b ≡ None → None ≡ three f a b c
unfolding three
three_second f a b c e g = rw (e, g)

pub three_third : (f : ℕ → ℕ → ℕ → Option ℕ) (a b c : Option ℕ) {x y : ℕ} → a ≡ Some x → b ≡ Some y → c ≡ None → None ≡ three f a b c
unfolding three
three_third f a b c e g h = rw (e, g, h)

pub three_all : (f : ℕ → ℕ → ℕ → Option ℕ) (a b c : Option ℕ) {x y z : ℕ} → a ≡ Some x → b ≡ Some y → c ≡ Some z → f x y z ≡ three f a b c
unfolding three
three_all f a b c e g h = rw (e, g, h)

-- what reads as three numbers that pass a test was three numbers
pub three_of : (f : ℕ → ℕ → ℕ → Option ℕ) (a b c : Option ℕ) (n : ℕ) → three f a b c ≡ Some n
    → (x y z : ℕ) × (a ≡ Some x) × (b ≡ Some y) × (c ≡ Some z) × (f x y z ≡ Some n)
unfolding three
three_of f None b c n e = let z : ◌≡◌ {A = ℕ} 0 1 = cc in absurd (omega arith)
three_of f (Some x) None c n e = let z : ◌≡◌ {A = ℕ} 0 1 = cc in absurd (omega arith)
three_of f (Some x) (Some y) None n e = let z : ◌≡◌ {A = ℕ} 0 1 = cc in absurd (omega arith)
three_of f (Some x) (Some y) (Some z) n e = (x, y, z, refl, refl, refl, e)

joined_small : (a b : Option ℕ) (n : ℕ) → ((x : ℕ) → a ≡ Some x → x ≤ 99) → ((y : ℕ) → b ≡ Some y → y ≤ 99) → joined a b ≡ Some n → n ≤ 9999
unfolding joined
joined_small None b n p q e = let z : ◌≡◌ {A = ℕ} 0 1 = cc in absurd (omega arith)
joined_small (Some x) None n p q e = let z : ◌≡◌ {A = ℕ} 0 1 = cc in absurd (omega arith)
joined_small (Some x) (Some y) n p q e = let h : x * 100 + y ≡ n = cc in omega (arith, p x refl, q y refl)

-- four digits make at most 9999
pub year_at_small : (l : List ℕ) (n : ℕ) → year_at l ≡ Some n → n ≤ 9999
unfolding year_at
year_at_small l n e = go (pair_at l 0) (pair_at l 2) refl refl e
  where
    go : (a b : Option ℕ) → pair_at l 0 ≡ a → pair_at l 2 ≡ b → joined a b ≡ Some n → n ≤ 9999
    go a b p q r = joined_small a b n (λ x h. pair_at_small l 0 x (p ∙ h)) (λ y h. pair_at_small l 2 y (q ∙ h)) r

-- how large the parts of a day's number are
pub day_parts : (y m d n b a : ℕ) → y ≤ 9999 → 1 ≤ d → n ≡ month_days y m → d ≤ n → b ≡ days_before_year y → a ≡ days_before_month y m → (b ≤ 3652060) × (a ≤ 335) × (d ≤ 31)
day_parts y m d n b a h k e l p q =
    let i : m ≤ 12 = month_days_month y m d n k e l in
    omega (arith, days_before_year_small y h, days_before_month_small y m i, month_days_small y m i)

-- the day is there, or not
pub checked_day_below : (y m d : ℕ) → d < 1 → None ≡ checked_day y m d
unfolding checked_day is_day
checked_day_below y m d h = rw (lt-leb 1 d h)

pub checked_day_above : (y m d n : ℕ) → 1 ≤ d → n ≡ month_days y m → n < d → None ≡ checked_day y m d
unfolding checked_day is_day
checked_day_above y m d n h e k = rw (le-leb 1 d h, ← e, lt-leb d n k)

pub checked_day_of : (y m d n b a : ℕ) → 1 ≤ d → n ≡ month_days y m → d ≤ n → b ≡ days_before_year y → a ≡ days_before_month y m → Some (b + a + (d - 1)) ≡ checked_day y m d
unfolding checked_day is_day day_number
checked_day_of y m d n b a h e k p q = rw (le-leb 1 d h, ← e, le-leb d n k, p, q)

-- the time is there, or not; the second 60 reads as 59
pub time_parts : (h m s : ℕ) → (leb h 23 && leb m 59 && leb s 60) ≡ true → (h ≤ 23) × (m ≤ 59) × (s ≤ 60)
time_parts h m s t =
    let k : (leb h 23 && leb m 59) ≡ true = and_left (leb h 23 && leb m 59) (leb s 60) t in
    (leb-true h 23 (and_left (leb h 23) (leb m 59) k), leb-true m 59 (and_right (leb h 23) (leb m 59) k), leb-true s 60 (and_right (leb h 23 && leb m 59) (leb s 60) t))

pub checked_time_last : (h m s : ℕ) → (leb h 23 && leb m 59 && leb s 60) ≡ true → s ≡ 60 → Some (h * 3600 + m * 60 + 59) ≡ checked_time h m s
unfolding checked_time
checked_time_last h m s t e = rw (t, eq-eqb s 60 e)

pub checked_time_of : (h m s : ℕ) → (leb h 23 && leb m 59 && leb s 60) ≡ true → (s ≡ 60 → ⊥) → Some (h * 3600 + m * 60 + s) ≡ checked_time h m s
unfolding checked_time
checked_time_of h m s t e = rw (t, ne_eqb s 60 e)

pub checked_time_bad : (h m s : ℕ) → (leb h 23 && leb m 59 && leb s 60) ≡ false → None ≡ checked_time h m s
unfolding checked_time
checked_time_bad h m s t = rw t

checked_day_small : (y m d n : ℕ) → y ≤ 9999 → checked_day y m d ≡ Some n → n ≤ 3652425
unfolding checked_day day_number is_day
checked_day_small y m d n h e = go (leb 1 d && leb d (month_days y m)) refl e
  where
    go : (t : Bool) → (leb 1 d && leb d (month_days y m)) ≡ t
        → cond t (Some (days_before_year y + days_before_month y m + (d - 1))) None ≡ Some n → n ≤ 3652425
    go true t e =
        let z : days_before_year y + days_before_month y m + (d - 1) ≡ n = cc in
        let p : 1 ≤ d = leb-true 1 d (and_left (leb 1 d) (leb d (month_days y m)) t) in
        let q : d ≤ month_days y m = leb-true d (month_days y m) (and_right (leb 1 d) (leb d (month_days y m)) t) in
        omega (arith, day_parts y m d (month_days y m) (days_before_year y) (days_before_month y m) h p refl q refl refl)
    go false t e = let z : ◌≡◌ {A = ℕ} 0 1 = cc in absurd (omega arith)

pub checked_time_small : (h m s n : ℕ) → checked_time h m s ≡ Some n → n < 86400
unfolding checked_time
checked_time_small h m s n e = go (leb h 23 && leb m 59 && leb s 60) (eqb s 60) refl refl e
  where
    go : (t u : Bool) → (leb h 23 && leb m 59 && leb s 60) ≡ t → eqb s 60 ≡ u
        → cond t (Some (h * 3600 + m * 60 + cond u 59 s)) None ≡ Some n → n < 86400
    go true true t u e = let z : h * 3600 + m * 60 + 59 ≡ n = cc in omega (arith, time_parts h m s t)
    go true false t u e =
        let z : h * 3600 + m * 60 + s ≡ n = cc in
        let v : s ≡ 60 → ⊥ = eqb-false s 60 u in
        omega (arith, time_parts h m s t)
    go false u t v e = let z : ◌≡◌ {A = ℕ} 0 1 = cc in absurd (omega arith)

-- a day of the years 0 to 9999, and a second of a day
pub date_at_small : (l : List ℕ) (n : ℕ) → date_at l ≡ Some n → n ≤ 3652425
unfolding date_at
date_at_small l n e =
    let w : (x y z : ℕ) × (year_at l ≡ Some x) × (pair_at l 4 ≡ Some y) × (pair_at l 6 ≡ Some z) × (checked_day x y z ≡ Some n) = three_of checked_day _ _ _ n e in
    checked_day_small w.0 w.1 w.2 n (year_at_small l w.0 w.3) w.6

pub time_at_small : (l : List ℕ) (n : ℕ) → time_at l ≡ Some n → n < 86400
unfolding time_at
time_at_small l n e =
    let w : (x y z : ℕ) × (pair_at l 9 ≡ Some x) × (pair_at l 11 ≡ Some y) × (pair_at l 13 ≡ Some z) × (checked_time x y z ≡ Some n) = three_of checked_time _ _ _ n e in
    checked_time_small w.0 w.1 w.2 n w.6

-- DATE and DATE-TIME, way by way
pub read_date_length : (l : List ℕ) → (length l ≡ 8 → ⊥) → None ≡ read_date l
unfolding read_date
read_date_length l h = rw (ne_eqb (length l) 8 h)

pub read_date_bad : (l : List ℕ) → length l ≡ 8 → date_at l ≡ None → None ≡ read_date l
unfolding read_date midnight
read_date_bad l h e = rw (eq-eqb (length l) 8 h, e)

pub read_date_of : (l : List ℕ) (n : ℕ) → length l ≡ 8 → date_at l ≡ Some n → Some (record { kind = Kind.Date; clock = n * 86400 }) ≡ read_date l
unfolding read_date midnight
read_date_of l n h e = rw (eq-eqb (length l) 8 h, e)

pub clock_at_mark : (k : Kind) (l : List ℕ) (b : ℕ) → b ≡ upper (get_or l 8 0) → (b ≡ 84 → ⊥) → None ≡ clock_at k l
unfolding clock_at
clock_at_mark k l b e h = rw (← e, ne_eqb b 84 h)

pub clock_at_day : (k : Kind) (l : List ℕ) (b : ℕ) → b ≡ upper (get_or l 8 0) → b ≡ 84 → date_at l ≡ None → None ≡ clock_at k l
unfolding clock_at clock_of
clock_at_day k l b e h p = rw (← e, eq-eqb b 84 h, p)

pub clock_at_time : (k : Kind) (l : List ℕ) (b n : ℕ) → b ≡ upper (get_or l 8 0) → b ≡ 84 → date_at l ≡ Some n → time_at l ≡ None → None ≡ clock_at k l
unfolding clock_at clock_of
clock_at_time k l b n e h p q = rw (← e, eq-eqb b 84 h, p, q)

pub clock_at_of : (k : Kind) (l : List ℕ) (b n t : ℕ) → b ≡ upper (get_or l 8 0) → b ≡ 84 → date_at l ≡ Some n → time_at l ≡ Some t → Some (record { kind = k; clock = n * 86400 + t }) ≡ clock_at k l
unfolding clock_at clock_of
clock_at_of k l b n t e h p q = rw (← e, eq-eqb b 84 h, p, q)

pub read_date_time_floating : (l : List ℕ) → length l ≡ 15 → clock_at Kind.Floating l ≡ read_date_time l
unfolding read_date_time
read_date_time_floating l h = rw (eq-eqb (length l) 15 h)

pub read_date_time_length : (l : List ℕ) → (length l ≡ 15 → ⊥) → (length l ≡ 16 → ⊥) → None ≡ read_date_time l
unfolding read_date_time
read_date_time_length l h k = rw (ne_eqb (length l) 15 h, ne_eqb (length l) 16 k)

pub read_date_time_mark : (l : List ℕ) (b : ℕ) → length l ≡ 16 → b ≡ upper (get_or l 15 0) → (b ≡ 90 → ⊥) → None ≡ read_date_time l
unfolding read_date_time
read_date_time_mark l b h e k = rw (ne_eqb (length l) 15 (omega arith), eq-eqb (length l) 16 h, ← e, ne_eqb b 90 k)

pub read_date_time_utc : (l : List ℕ) (b : ℕ) → length l ≡ 16 → b ≡ upper (get_or l 15 0) → b ≡ 90 → clock_at Kind.Utc l ≡ read_date_time l
unfolding read_date_time
read_date_time_utc l b h e k = rw (ne_eqb (length l) 15 (omega arith), eq-eqb (length l) 16 h, ← e, eq-eqb b 90 k)
