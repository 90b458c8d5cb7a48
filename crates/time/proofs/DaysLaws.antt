-- Laws of days: leap years by 16, the days before a year and before a month by direct arithmetic,
-- each against the count year by year and month by month.
use Prim.Native.Nat.{ℕ, zero, suc, ◌+◌, ◌-◌, ◌*◌, ◌/◌, ◌%◌, ◌≤◌, ◌<◌}
use mathlib.Core.Path.{◌≡◌, refl, ap, ◌∙◌, sym}
use mathlib.Core.Bool.{Bool, true, false, cond, not, ◌&&◌, ◌||◌}
use native.Mathlib.Omega.{arith}
use native.Mathlib.Nat.{div-add-mod', div-eq_of_lt, mul-add-div_right, mod-lt, add-div_right}
use native.Mathlib.Decide.{dec_lt}
use lib.Dec.{eqb, ltb, leb}
use lib.ListN.{get_or, get_or-eq_default}
use borrow.Author.Tests.{eqb-true, eq-eqb, ne_eqb, leb-true, ltb-true, ltb-false}
use Rattle.ascii.proofs.Bools.{clash, or_left, or_right}
use Rattle.time.specs.Days.{is_leap, year_days, days_before_year, year_in, month_days, days_before_month, month_lengths, length_in, before_in}
use Rattle.time.proofs.Below.{below, between}

-- 1 for a test that holds
abbrev bit : Bool → ℕ
bit true = 1
bit false = 0

-- q times m and x more, divided by m
div_part : (k q x n : ℕ) → n ≡ q * suc k + x → n / suc k ≡ q + x / suc k
div_part k q x n e = ap (λ (a : ℕ). a / suc k) e ∙ mul-add-div_right (omega arith) q x

-- one year on, the count of every m-th year grows by one exactly past such a year
counted_next : (k y : ℕ) → (suc y + k) / suc k ≡ (y + k) / suc k + bit (eqb (y % suc k) 0)
counted_next k y = go (y % suc k) (y / suc k) refl (div-add-mod' y (suc k)) (mod-lt y (omega arith))
  where
    none : (x : ℕ) → x < suc k → x / suc k ≡ 0
    none x h = div-eq_of_lt h

    one : (x : ℕ) → x < suc k → (x + suc k) / suc k ≡ 1
    one x h = omega (arith, add-div_right x {k = suc k} (omega arith), none x h)

    go : (r q : ℕ) → y % suc k ≡ r → q * suc k + y % suc k ≡ y → y % suc k < suc k
        → (suc y + k) / suc k ≡ (y + k) / suc k + bit (eqb (y % suc k) 0)
    go zero q e f l =
        rw (eq-eqb _ _ e)
        (omega (arith, div_part k q (0 + suc k) (suc y + k) (omega arith), one 0 (omega arith), div_part k q k (y + k) (omega arith), none k (omega arith)))
    go (suc r) q e f l =
        rw (ne_eqb (y % suc k) 0 (omega arith))
        (omega (arith, div_part k q (suc r + suc k) (suc y + k) (omega arith), one (suc r) (omega arith), div_part k q (r + suc k) (y + k) (omega arith), one r (omega arith)))

hundred_fourth : (y : ℕ) → y % 100 ≡ 0 → y % 4 ≡ 0
hundred_fourth y h = omega arith

four_hundred_hundred : (y : ℕ) → y % 400 ≡ 0 → y % 100 ≡ 0
four_hundred_hundred y h = omega arith

four_hundred_sixteen : (y : ℕ) → y % 400 ≡ 0 → y % 16 ≡ 0
four_hundred_sixteen y h = omega arith

-- of the numbers below 400, of which y leaves one, only 0 is divided by 100 and by 16
hundred_sixteen : (y : ℕ) → y % 100 ≡ 0 → y % 16 ≡ 0 → y % 400 ≡ 0
hundred_sixteen y h k =
    let a : eqb (y % 400 % 100) 0 ≡ true = eq-eqb _ _ (let z : y % 400 % 100 ≡ 0 = omega arith in z) in
    let b : eqb (y % 400 % 16) 0 ≡ true = eq-eqb _ _ (let z : y % 400 % 16 ≡ 0 = omega arith in z) in
    eqb-true _ _ (rw (a, b) at (below (λ r. not (eqb (r % 100) 0) || (not (eqb (r % 16) 0) || eqb r 0)) 400 refl (y % 400) (omega arith)))

-- of the hundreds every fourth is one that 16 divides
pub is_leap_direct : (y : ℕ) → (eqb (y % 4) 0 && (not (eqb (y % 100) 0) || eqb (y % 16) 0)) ≡ is_leap y
unfolding is_leap
is_leap_direct y = go (eqb (y % 4) 0) (eqb (y % 100) 0) (eqb (y % 400) 0) (eqb (y % 16) 0) refl refl refl refl
  where
    go : (a b c d : Bool) → eqb (y % 4) 0 ≡ a → eqb (y % 100) 0 ≡ b → eqb (y % 400) 0 ≡ c → eqb (y % 16) 0 ≡ d
        → (a && (not b || d)) ≡ (a && not b || c)
    go true true true true p q r s = refl
    go true true true false p q r s = clash (eq-eqb _ _ (four_hundred_sixteen y (eqb-true _ _ r))) s
    go true true false true p q r s = clash (eq-eqb _ _ (hundred_sixteen y (eqb-true _ _ q) (eqb-true _ _ s))) r
    go true true false false p q r s = refl
    go true false c d p q r s = refl
    go false b true d p q r s = clash (eq-eqb _ _ (hundred_fourth y (four_hundred_hundred y (eqb-true _ _ r)))) p
    go false b false d p q r s = refl

-- the leap day of a year: one every fourth, none every hundredth, one again every four hundredth
leap_day : (y : ℕ) → year_days y + bit (eqb (y % 100) 0) ≡ 365 + bit (eqb (y % 4) 0) + bit (eqb (y % 400) 0)
unfolding is_leap year_days
leap_day y = go (eqb (y % 4) 0) (eqb (y % 100) 0) (eqb (y % 400) 0) refl refl refl
  where
    go : (a b c : Bool) → eqb (y % 4) 0 ≡ a → eqb (y % 100) 0 ≡ b → eqb (y % 400) 0 ≡ c
        → cond (a && not b || c) 366 365 + bit b ≡ 365 + bit a + bit c
    go true true true p q r = refl
    go true true false p q r = refl
    go true false true p q r = clash (eq-eqb _ _ (four_hundred_hundred y (eqb-true _ _ r))) q
    go true false false p q r = refl
    go false true c p q r = clash (eq-eqb _ _ (hundred_fourth y (eqb-true _ _ q))) p
    go false false true p q r = clash (eq-eqb _ _ (four_hundred_hundred y (eqb-true _ _ r))) q
    go false false false p q r = refl

-- the same without a difference
pub sum_direct : (y : ℕ) → days_before_year y + (y + 99) / 100 ≡ 365 * y + (y + 3) / 4 + (y + 399) / 400
unfolding days_before_year
sum_direct zero = refl
sum_direct (suc y) = omega (arith, sum_direct y, counted_next 3 y, counted_next 99 y, counted_next 399 y, leap_day y)

-- the days before a year, with no loop and no table
pub days_before_year_direct : (y : ℕ) → days_before_year y ≡ 365 * y + (y + 3) / 4 + (y + 399) / 400 - (y + 99) / 100
days_before_year_direct y = omega (arith, sum_direct y)

-- every fourth of the hundreds is every four hundredth
hundreds_fourth : (y : ℕ) → ((y + 99) / 100 + 3) / 4 ≡ (y + 399) / 400
hundreds_fourth y = omega arith

-- the same with one division, the others being by powers of two
pub days_before_year_once : (y : ℕ) → 365 * y + (y + 3) / 4 + ((y + 99) / 100 + 3) / 4 - (y + 99) / 100 ≡ days_before_year y
days_before_year_once y = rw (hundreds_fourth y) (sym (days_before_year_direct y))

-- the days of ten thousand years
pub days_before_year_small : (y : ℕ) → y ≤ 9999 → days_before_year y ≤ 3652060
days_before_year_small y h = omega (arith, sum_direct y)

-- the day 1 January 1970
pub epoch_day : days_before_year 1970 ≡ 719528
epoch_day = days_before_year_direct 1970

pub year_in_small : (leap : Bool) → year_in leap ≤ 366
year_in_small true = omega arith
year_in_small false = omega arith

-- the days before a month by a division by 16, computed for every month
pub before_in_early : (leap : Bool) (m : ℕ) → m < 3 → m / 2 * 31 ≡ before_in leap m
unfolding before_in length_in month_lengths
before_in_early true m h = eqb-true _ _ (below (λ m. eqb (m / 2 * 31) (before_in true m)) 3 refl m h)
before_in_early false m h = eqb-true _ _ (below (λ m. eqb (m / 2 * 31) (before_in false m)) 3 refl m h)

before_in_late : (leap : Bool) (m : ℕ) → 3 ≤ m → m ≤ 12 → (489 * m - 512) / 16 + cond leap 1 0 ≡ before_in leap m
unfolding before_in length_in month_lengths
before_in_late true m h k = eqb-true _ _ (between (λ m. eqb ((489 * m - 512) / 16 + 1) (before_in true m)) 3 13 refl m h (omega arith))
before_in_late false m h k = eqb-true _ _ (between (λ m. eqb ((489 * m - 512) / 16 + 0) (before_in false m)) 3 13 refl m h (omega arith))

-- from March on, one day more in a leap year
pub before_in_leap : (leap : Bool) (m : ℕ) → leap ≡ true → 3 ≤ m → m ≤ 12 → (489 * m - 512) / 16 + 1 ≡ before_in leap m
before_in_leap leap m e h k = rw e (before_in_late true m h k)

pub before_in_other : (leap : Bool) (m : ℕ) → leap ≡ false → 3 ≤ m → m ≤ 12 → (489 * m - 512) / 16 ≡ before_in leap m
before_in_other leap m e h k = rw e (omega (arith, before_in_late false m h k))

length_in_none : (leap : Bool) (m : ℕ) → 12 < m → length_in leap m ≡ 0
unfolding length_in month_lengths
length_in_none leap m h = rw (ne_eqb m 2 (omega arith)) (get_or-eq_default month_lengths 0 h)

pub month_days_none : (y m : ℕ) → 12 < m → 0 ≡ month_days y m
unfolding month_days
month_days_none y m h = sym (length_in_none (is_leap y) m h)

-- a month with a day is one of the twelve, and has at most 31
pub month_days_month : (y m d n : ℕ) → 1 ≤ d → n ≡ month_days y m → d ≤ n → m ≤ 12
month_days_month y m d n h e k = go (dec_lt 12 m)
  where
    go : Dec (12 < m) → m ≤ 12
    go (yes p) = absurd (omega (arith, month_days_none y m p))
    go (no q) = omega arith

length_in_small : (leap : Bool) (m : ℕ) → m ≤ 12 → length_in leap m ≤ 31
unfolding length_in month_lengths
length_in_small leap m h = go (eqb m 2 && leap)
  where
    go : (t : Bool) → cond t 29 (get_or month_lengths m 0) ≤ 31
    go true = omega arith
    go false = leb-true _ _ (below (λ m. leb (get_or month_lengths m 0) 31) 13 refl m (omega arith))

pub month_days_small : (y m : ℕ) → m ≤ 12 → month_days y m ≤ 31
unfolding month_days
month_days_small y m h = length_in_small (is_leap y) m h

-- no days where there is no month, 29 or 28 in February, 31 in the odd months to July and the even ones from August, else 30
pub month_days_outside : (y m : ℕ) → (eqb m 0 || ltb 12 m) ≡ true → 0 ≡ month_days y m
unfolding month_days length_in month_lengths
month_days_outside y m t = go (eqb m 0) refl
  where
    go : (b : Bool) → eqb m 0 ≡ b → 0 ≡ month_days y m
    go true e = rw (eqb-true m 0 e)
    go false e = month_days_none y m (ltb-true 12 m (rw e at t))

pub month_inside : (m : ℕ) → (eqb m 0 || ltb 12 m) ≡ false → m ≤ 12
month_inside m t = ltb-false 12 m (or_right (eqb m 0) (ltb 12 m) t)

pub month_days_february : (y m : ℕ) (leap t : Bool) → m ≡ 2 → leap ≡ is_leap y → leap ≡ t → cond t 29 28 ≡ month_days y m
unfolding month_days length_in month_lengths
month_days_february y m leap true h e t = rw (h, ← e, t)
month_days_february y m leap false h e t = rw (h, ← e, t)

pub month_days_other : (y m : ℕ) → (eqb m 0 || ltb 12 m) ≡ false → (m ≡ 2 → ⊥) → 30 + (m + m / 8) % 2 ≡ month_days y m
unfolding month_days length_in month_lengths
month_days_other y m t h =
    let n : eqb m 0 ≡ false = or_left (eqb m 0) (ltb 12 m) t in
    let k = month_inside m t in
    rw (ne_eqb m 2 h)
    (eqb-true _ _ (rw (n, ne_eqb m 2 h) at (below (λ m. eqb m 0 || (eqb m 2 || eqb (30 + (m + m / 8) % 2) (get_or month_lengths m 0))) 13 refl m (omega arith))))

pub days_before_month_by : (y m r : ℕ) (leap : Bool) → leap ≡ is_leap y → r ≡ before_in leap m → r ≡ days_before_month y m
unfolding days_before_month
days_before_month_by y m r leap e h = rw (h, e)

-- fewer than a year's days
pub days_before_month_small : (y m : ℕ) → m ≤ 12 → days_before_month y m ≤ 335
unfolding days_before_month before_in length_in month_lengths
days_before_month_small y m h = go (is_leap y)
  where
    go : (leap : Bool) → before_in leap m ≤ 335
    go true = leb-true _ _ (below (λ m. leb (before_in true m) 335) 13 refl m (omega arith))
    go false = leb-true _ _ (below (λ m. leb (before_in false m) 335) 13 refl m (omega arith))
