-- Laws of rule days and their years: which years a day can lie in, that a rule's day lies in its year, and that later years have later days.
use Rattle.std.specs.Prelude.{Option, Some}
use Prim.Native.Nat.{ℕ, zero, suc, ◌+◌, ◌-◌, ◌*◌, ◌/◌, ◌≤◌, ◌<◌}
use mathlib.Core.Path.{◌≡◌, refl}
use mathlib.Core.Bool.{Bool, true, false}
use native.Mathlib.Omega.{arith}
use lib.Dec.{leb}
use borrow.Author.Tests.{leb-true}
use Rattle.time.specs.Days.{days_before_year, days_before_month, month_days, year_days, year_in, is_leap, before_in, length_in, month_lengths}
use Rattle.time.proofs.DaysLaws.{sum_direct, days_before_year_small, days_before_month_small, month_days_small}
use Rattle.time.proofs.Below.{below}
use Rattle.zones.specs.declared.Part.{Part}
use Rattle.zones.specs.Parts.{Exactly}
use Rattle.zones.specs.RuleDays.{RuleDay}

-- ---- years by a division

-- a year that has begun by the day d is no higher than this
pub year_high : (y d : ℕ) → days_before_year y ≤ d → y ≤ (400 * d + 396) / 146097
year_high y d h = omega (arith, sum_direct y)

-- a year that is no higher than this has begun by the day after d
pub year_low : (y d : ℕ) → y ≤ 400 * d / 146097 → days_before_year y ≤ d + 1
year_low y d h = omega (arith, sum_direct y)

next_year : (y : ℕ) → days_before_year (suc y) ≡ days_before_year y + year_days y
unfolding days_before_year
next_year y = refl

year_rise : (y k : ℕ) → days_before_year y ≤ days_before_year (y + k)
year_rise y zero = let e : y + 0 ≡ y = omega arith in rw e (omega arith)
year_rise y (suc k) = let e : y + suc k ≡ suc (y + k) = omega arith in rw e (omega (arith, year_rise y k, next_year (y + k)))

-- a year comes no later than a higher one
pub years_rise : (y z : ℕ) → y ≤ z → days_before_year y ≤ days_before_year z
years_rise y z h = let q : y + (z - y) ≡ z = omega arith in rw q at (year_rise y (z - y))

-- ---- a month lies in its year

month_inside : (leap : Bool) (m : ℕ) → m ≤ 12 → before_in leap m + length_in leap m ≤ year_in leap
unfolding before_in length_in month_lengths
month_inside true m h = leb-true _ _ (below (λ m. leb (before_in true m + length_in true m) 366) 13 refl m (omega arith))
month_inside false m h = leb-true _ _ (below (λ m. leb (before_in false m + length_in false m) 365) 13 refl m (omega arith))

month_in_year : (y m : ℕ) → m ≤ 12 → days_before_month y m + month_days y m ≤ year_days y
unfolding days_before_month month_days year_days
month_in_year y m h = month_inside (is_leap y) m h

-- ---- and so does the rule's day

pub day_begun : (p : Part) (y d : ℕ) → RuleDay p y d → days_before_year y ≤ d
day_begun p y d x = omega (arith, x.not_before)

pub day_over : (p : Part) (y d : ℕ) → p.month ≤ 12 → RuleDay p y d → d < days_before_year (suc y)
day_over p y d h x = omega (arith, x.not_past, next_year y, month_in_year y p.month h)

pub day_order : (p : Part) (y z d e : ℕ) → p.month ≤ 12 → RuleDay p y d → RuleDay p z e → y < z → d < e
day_order p y z d e h x x' l = omega (arith, day_over p y d h x, day_begun p z e x', years_rise (suc y) z (omega arith))

pub day_small : (p : Part) (y : ℕ) (r : Option ℕ) (d : ℕ) → Exactly (RuleDay p y) r → r ≡ Some d → y ≤ 9999 → p.month ≤ 12 → d ≤ 4000000
day_small p y r d q e b m =
    omega (arith, (q.is_so d e).not_past, days_before_year_small y b, days_before_month_small y p.month m, month_days_small y p.month m)

-- ---- without a rule there is none

length_in_zero : (leap : Bool) → length_in leap 0 ≡ 0
unfolding length_in month_lengths
length_in_zero leap = refl

pub no_rule : (p : Part) (y d : ℕ) → p.month ≡ 0 → RuleDay p y d → ⊥
unfolding month_days
no_rule p y d e x = let a : month_days y p.month ≡ 0 = rw e (length_in_zero (is_leap y)) in omega (arith, x.not_before, x.not_past)
