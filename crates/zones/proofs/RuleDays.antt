-- Laws of rule days: weekdays counted are weekdays found by a division.
use Rattle.std.specs.Prelude.{None, Option, Some}
use Prim.Native.Nat.{ℕ, zero, suc, ◌+◌, ◌-◌, ◌*◌, ◌/◌, ◌%◌, ◌≤◌, ◌<◌}
use mathlib.Core.Path.{◌≡◌, refl, ◌∙◌}
use mathlib.Core.Bool.{Bool, true, false, cond}
use native.Mathlib.Omega.{arith}
use lib.Dec.{eqb, ltb}
use borrow.Author.Tests.{eqb-true, eqb-false, ltb-true, ltb-false}
use Rattle.time.specs.Days.{days_before_year, days_before_month, month_days}
use Rattle.zones.specs.declared.Part.{Part}
use Rattle.zones.specs.Parts.{GoodPart, Exactly}
use Rattle.zones.specs.RuleDays.{weekday_of, weekdays_in, NthWeekday, RuleDay, days_ahead, days_behind, nth_weekday, rule_day}
use Rattle.zones.proofs.Parts.{exactly_at, exactly_nothing}

-- ---- counting

-- one in seven, wherever the counting starts
weekdays_in_law : (w s n : ℕ) → w ≤ 6 → weekdays_in w s n + (s + 19 - w) / 7 ≡ (s + 19 - w + n) / 7
unfolding weekdays_in
weekdays_in_law w s zero h = omega arith
weekdays_in_law w s (suc n) h = go (eqb (weekday_of (s + n)) w) refl (weekdays_in_law w s n h)
  where
    go : (t : Bool) → eqb (weekday_of (s + n)) w ≡ t → weekdays_in w s n + (s + 19 - w) / 7 ≡ (s + 19 - w + n) / 7
        → weekdays_in w s n + cond t 1 0 + (s + 19 - w) / 7 ≡ (s + 19 - w + suc n) / 7
    go true e i = let f : (s + n + 6) % 7 ≡ w = eqb-true _ _ e in omega arith
    go false e i = let f : (s + n + 6) % 7 ≡ w → ⊥ = eqb-false _ _ e in omega arith

-- before a day of the weekday, and behind one
counted_before : (w s m : ℕ) → weekday_of (s + m) ≡ w → weekdays_in w s m ≡ m / 7
counted_before w s m e =
    let i : weekdays_in w s m + (s + 19 - w) / 7 ≡ (s + 19 - w + m) / 7 = weekdays_in_law w s m (omega arith) in
    omega arith

counted_behind : (w d m : ℕ) → weekday_of d ≡ w → weekdays_in w (d + 1) m ≡ m / 7
counted_behind w d m e =
    let i : weekdays_in w (d + 1) m + (d + 1 + 19 - w) / 7 ≡ (d + 1 + 19 - w + m) / 7 = weekdays_in_law w (d + 1) m (omega arith) in
    omega arith

-- ---- the day and no other

ahead_is : (s n w k d : ℕ) → w ≤ 6 → d ≡ s + days_ahead s w k → days_ahead s w k < n → NthWeekday s n w k false d
ahead_is s n w k d h e l =
    let a : weekday_of d ≡ w = omega arith in
    let b : s + (d - s) ≡ d = omega arith in
    let c : weekdays_in w s (d - s) ≡ (d - s) / 7 = counted_before w s (d - s) (rw b a) in
    record { not_before = omega arith; not_past = omega arith; on_weekday = a; counted = omega arith }

ahead_alone : (s n w k d : ℕ) → NthWeekday s n w k false d → d ≡ s + days_ahead s w k
ahead_alone s n w k d x =
    let b : s + (d - s) ≡ d = omega (arith, x.not_before) in
    let c : weekdays_in w s (d - s) ≡ (d - s) / 7 = counted_before w s (d - s) (rw b x.on_weekday) in
    let f : weekdays_in w s (d - s) ≡ k = x.counted in
    let g : (d + 6) % 7 ≡ w = x.on_weekday in
    omega arith

weeks : (o k m : ℕ) → m ≡ o % 7 + 7 * k → m / 7 ≡ k
weeks o k m e = omega arith

behind_is : (s n w k d : ℕ) → w ≤ 6 → d ≡ s + n - 1 - days_behind s n w k → days_behind s n w k < n → NthWeekday s n w k true d
behind_is s n w k d h e l =
    let a : (d + 6) % 7 ≡ w = omega arith in
    let c : weekdays_in w (d + 1) (s + n - (d + 1)) ≡ (s + n - (d + 1)) / 7 = counted_behind w d (s + n - (d + 1)) a in
    record {
      not_before = omega arith;
      not_past = omega arith;
      on_weekday = a;
      counted = c ∙ weeks ((s + n + 5) % 7 + 7 - w) k _ (omega arith);
    }

behind_alone : (s n w k d : ℕ) → NthWeekday s n w k true d → d + days_behind s n w k + 1 ≡ s + n
behind_alone s n w k d x =
    let c : weekdays_in w (d + 1) (s + n - (d + 1)) ≡ (s + n - (d + 1)) / 7 = counted_behind w d (s + n - (d + 1)) x.on_weekday in
    let f : weekdays_in w (d + 1) (s + n - (d + 1)) ≡ k = x.counted in
    let g : (d + 6) % 7 ≡ w = x.on_weekday in
    let p : d < s + n = x.not_past in
    omega arith

-- ---- the ways out

module _ (s n w k : ℕ) (back : Bool) (h : w ≤ 6) where
  pub ahead_found : back ≡ false → days_ahead s w k < n → Exactly (NthWeekday s n w k back) (Some (s + days_ahead s w k))
  ahead_found e l = rw e (exactly_at _ (ahead_is s n w k _ h refl l) (ahead_alone s n w k))

  pub ahead_none : back ≡ false → n ≤ days_ahead s w k → Exactly (NthWeekday s n w k back) None
  ahead_none e l = rw e (exactly_nothing (λ d x. omega (arith, ahead_alone s n w k d x, x.not_past)))

  pub behind_found : back ≡ true → days_behind s n w k < n → Exactly (NthWeekday s n w k back) (Some (s + n - 1 - days_behind s n w k))
  behind_found e l = rw e (exactly_at _ (behind_is s n w k _ h refl l) (λ d x. omega (arith, behind_alone s n w k d x)))

  pub behind_none : back ≡ true → n ≤ days_behind s n w k → Exactly (NthWeekday s n w k back) None
  behind_none e l = rw e (exactly_nothing (λ d x. omega (arith, behind_alone s n w k d x, x.not_before)))

-- the month's days, as the code has them
pub rule_day_by : (p : Part) (y a b n : ℕ) (r : Option ℕ) → a ≡ days_before_year y → b ≡ days_before_month y p.month → n ≡ month_days y p.month
    → Exactly (NthWeekday (a + b) n p.weekday p.others p.back) r → Exactly (RuleDay p y) r
rule_day_by p y a b n r e f g x = rw (e, f, g) at x

-- ---- as computed

nth_is : (s n w k : ℕ) (back : Bool) → w ≤ 6 → Exactly (NthWeekday s n w k back) (nth_weekday s n w k back)
unfolding nth_weekday
nth_is s n w k true h = go (ltb (days_behind s n w k) n) refl
  where
    go : (t : Bool) → ltb (days_behind s n w k) n ≡ t
        → Exactly (NthWeekday s n w k true) (cond t (Some (s + n - 1 - days_behind s n w k)) None)
    go true e = behind_found s n w k true h refl (ltb-true (days_behind s n w k) n e)
    go false e = behind_none s n w k true h refl (ltb-false (days_behind s n w k) n e)
nth_is s n w k false h = go (ltb (days_ahead s w k) n) refl
  where
    go : (t : Bool) → ltb (days_ahead s w k) n ≡ t → Exactly (NthWeekday s n w k false) (cond t (Some (s + days_ahead s w k)) None)
    go true e = ahead_found s n w k false h refl (ltb-true (days_ahead s w k) n e)
    go false e = ahead_none s n w k false h refl (ltb-false (days_ahead s w k) n e)

pub rule_day_is : (p : Part) (y : ℕ) → GoodPart p → Exactly (RuleDay p y) (rule_day p y)
unfolding rule_day
rule_day_is p y g = nth_is _ _ _ _ p.back g.weekday_good
