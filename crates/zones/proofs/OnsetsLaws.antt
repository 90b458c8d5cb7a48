-- Laws of onsets: walking down through the years finds the latest by the rule, and with DTSTART the latest of the part.
use Rattle.std.specs.Prelude.{None, Option, Some}
use Prim.Native.Nat.{ℕ, zero, suc, ◌+◌, ◌*◌, ◌/◌, ◌%◌, ◌≤◌, ◌<◌}
use mathlib.Core.Path.{◌≡◌, refl}
use mathlib.Core.Bool.{Bool, true, false, ◌&&◌}
use native.Mathlib.Omega.{arith}
use native.Mathlib.Decide.{dec_lt}
use lib.Dec.{leb, ltb}
use borrow.Author.Tests.{leb-true, leb-false, ltb-true, ltb-false}
use Rattle.ascii.proofs.Bools.{and_left, and_right, clash}
use Rattle.time.proofs.DaysLaws.{sum_direct}
use Rattle.zones.specs.declared.Part.{Part}
use Rattle.zones.specs.Parts.{GoodPart, Exactly}
use Rattle.zones.specs.RuleDays.{RuleDay, rule_day}
use Rattle.zones.specs.Onsets.{RuledOnset, IsOnset, at_start, by_rule_holds, Latest, LatestFound, or_else, if_reached, latest_by_rule, or_start, latest_onset}
use Rattle.zones.proofs.Parts.{not_both, same_found}
use Rattle.zones.proofs.RuleDays.{rule_day_is}
use Rattle.zones.proofs.RuleDayYears.{year_high, year_low, day_begun, day_over, day_order, no_rule}

-- ---- found, or none

found_at : {On : ℕ → Type 0} (w t : ℕ) → Latest On w t → LatestFound On w (Some t)
found_at w t x = record { found = λ u q. let z : t ≡ u = same_found refl q in rw (← z) x; none = λ q. not_both refl q }

found_none : {On : ℕ → Type 0} (w : ℕ) → ((u : ℕ) → On u → u ≤ w → ⊥) → LatestFound On w None
found_none w x = record { found = λ u q. not_both q refl; none = λ q. x }

-- ---- the walk

-- the rule's day d is an onset that w has reached
abbrev reached_by : Part → ℕ → ℕ → Bool
reached_by p w d = ltb (p.start / 86400) d && leb (d * 86400 + p.start % 86400) w

-- no onset by the rule in the years from y on is reached by w
pub record Passed (p : Part) (w y : ℕ) : Type 0 where
  pub unreached : (z d : ℕ) → y ≤ z → RuleDay p z d → p.start / 86400 < d → d * 86400 + p.start % 86400 ≤ w → ⊥

pub start : (p : Part) (w : ℕ) → Passed p w ((400 * (w / 86400) + 396) / 146097 + 1)
start p w = record { unreached = λ z d l x k r. omega (arith, year_high z (w / 86400) (omega (arith, day_begun p z d x))) }

-- a year has 365 days or more
start_plain : (p : Part) (w : ℕ) → Passed p w (w / 86400 / 365 + 1)
start_plain p w = record { unreached = λ z d l x k r. omega (arith, sum_direct z, day_begun p z d x) }

-- a year without the day, or whose day is not reached, is passed
module _ (p : Part) (w y z : ℕ) (r : Option ℕ) (q : Exactly (RuleDay p z) r) (o : Passed p w y) (l : y ≡ z + 1) where
  step : ((d : ℕ) → RuleDay p z d → p.start / 86400 < d → d * 86400 + p.start % 86400 ≤ w → ⊥) → Passed p w z
  step f = record { unreached = λ v d h x k u. go v d x k u h (dec_lt z v) }
    where
      go : (v d : ℕ) → RuleDay p v d → p.start / 86400 < d → d * 86400 + p.start % 86400 ≤ w → z ≤ v → Dec (z < v) → ⊥
      go v d x k u h (yes a) = o.unreached v d (omega arith) x k u
      go v d x k u h (no a) = let e : v ≡ z = omega arith in f d (rw e at x) k u

  pub step_none : r ≡ None → Passed p w z
  step_none e = step (λ d x k u. not_both (q.no_other d x) e)

  pub step_at : (d : ℕ) → r ≡ Some d → reached_by p w d ≡ false → Passed p w z
  step_at d e t = step (λ d' x k u. go (ltb (p.start / 86400) d) (leb (d * 86400 + p.start % 86400) w) refl refl t d' (same_found (q.no_other d' x) e) k u)
    where
      go : (a b : Bool) → ltb (p.start / 86400) d ≡ a → leb (d * 86400 + p.start % 86400) w ≡ b → (a && b) ≡ false
          → (d' : ℕ) → d' ≡ d → p.start / 86400 < d' → d' * 86400 + p.start % 86400 ≤ w → ⊥
      go true true f g h d' e' k u = clash refl h
      go true false f g h d' e' k u = omega (arith, leb-false (d * 86400 + p.start % 86400) w g)
      go false b f g h d' e' k u = omega (arith, ltb-false (p.start / 86400) d f)

  -- the first that is reached is the latest
  pub stop_at : p.month ≤ 12 → (d : ℕ) → r ≡ Some d → reached_by p w d ≡ true
      → LatestFound (RuledOnset p) w (Some (d * 86400 + p.start % 86400))
  stop_at m d e t =
      found_at w _
      (record {
        is_one = record { year = z; day = d; is_rule_day = q.is_so d e; is_later = later; clock = refl };
        reached = leb-true (d * 86400 + p.start % 86400) w (and_right (ltb (p.start / 86400) d) (leb (d * 86400 + p.start % 86400) w) t);
        greatest = λ u x h. go u x.year x.day x.is_rule_day x.is_later x.clock h (dec_lt x.year z) (dec_lt z x.year);
      })
    where
      later : p.start / 86400 < d
      later = ltb-true (p.start / 86400) d (and_left (ltb (p.start / 86400) d) (leb (d * 86400 + p.start % 86400) w) t)

      go : (u v d' : ℕ) → RuleDay p v d' → p.start / 86400 < d' → u ≡ d' * 86400 + p.start % 86400 → u ≤ w
          → Dec (v < z) → Dec (z < v) → u ≤ d * 86400 + p.start % 86400
      go u v d' x k c h (yes f) g = omega (arith, day_order p v z d' d m x (q.is_so d e) f)
      go u v d' x k c h (no f) (yes g) = absurd (o.unreached v d' (omega arith) x k (omega arith))
      go u v d' x k c h (no f) (no g) =
          let i : v ≡ z = omega arith in
          omega (arith, same_found (q.no_other d' (rw i at x)) e)

-- the years before that of DTSTART have none
pub ended : (p : Part) (w y : ℕ) → p.month ≤ 12 → Passed p w y → y ≤ 400 * (p.start / 86400) / 146097 → LatestFound (RuledOnset p) w None
ended p w y m o h = found_none w (λ u x k. go u x.year x.day x.is_rule_day x.is_later x.clock k (dec_lt x.year y))
  where
    go : (u z d : ℕ) → RuleDay p z d → p.start / 86400 < d → u ≡ d * 86400 + p.start % 86400 → u ≤ w → Dec (z < y) → ⊥
    go u z d x k c l (yes f) = omega (arith, day_over p z d m x, year_low (suc z) (p.start / 86400) (omega arith))
    go u z d x k c l (no f) = o.unreached z d (omega arith) x k (omega arith)

-- ---- with DTSTART

-- no onset comes before DTSTART
pub start_least : (p : Part) (u : ℕ) → IsOnset p u → p.start ≤ u
start_least p u (at_start e) = omega arith
start_least p u (by_rule_holds x) = omega (arith, x.is_later, x.clock)

pub before_start : (p : Part) (w : ℕ) → w < p.start → LatestFound (IsOnset p) w None
before_start p w h = found_none w (λ u o k. omega (arith, start_least p u o))

only_start : (p : Part) (w : ℕ) → p.start ≤ w → ((u : ℕ) → RuledOnset p u → u ≤ w → ⊥) → LatestFound (IsOnset p) w (Some p.start)
only_start p w h f = found_at w _ (record { is_one = at_start refl; reached = h; greatest = go })
  where
    go : (u : ℕ) → IsOnset p u → u ≤ w → u ≤ p.start
    go u (at_start e) k = omega arith
    go u (by_rule_holds x) k = absurd (f u x k)

pub without_rule : (p : Part) (w : ℕ) → p.start ≤ w → p.month ≡ 0 → LatestFound (IsOnset p) w (Some p.start)
without_rule p w h e = only_start p w h (λ u x k. no_rule p x.year x.day e x.is_rule_day)

by_latest : (p : Part) (w t : ℕ) → Latest (RuledOnset p) w t → LatestFound (IsOnset p) w (Some t)
by_latest p w t l = found_at w t (record { is_one = by_rule_holds l.is_one; reached = l.reached; greatest = go })
  where
    go : (u : ℕ) → IsOnset p u → u ≤ w → u ≤ t
    go u (at_start e) k = omega (arith, l.is_one.is_later, l.is_one.clock)
    go u (by_rule_holds x) k = l.greatest u x k

pub rule_found : (p : Part) (w t : ℕ) (r : Option ℕ) → LatestFound (RuledOnset p) w r → r ≡ Some t → LatestFound (IsOnset p) w (Some t)
rule_found p w t r x e = by_latest p w t (x.found t e)

pub rule_none : (p : Part) (w : ℕ) (r : Option ℕ) → p.start ≤ w → LatestFound (RuledOnset p) w r → r ≡ None
    → LatestFound (IsOnset p) w (Some p.start)
rule_none p w r h x e = only_start p w h (x.none e)

-- ---- as computed

down : (p : Part) (w y : ℕ) → GoodPart p → Passed p w y → LatestFound (RuledOnset p) w (latest_by_rule p w y)
unfolding latest_by_rule
down p w zero g o =
    found_none w (λ u x k. o.unreached x.year x.day (omega arith) x.is_rule_day x.is_later (omega (arith, x.clock)))
down p w (suc y) g o = go (rule_day p y) refl (rule_day_is p y g) (down p w y g)
  where
    by : (d : ℕ) (t : Bool) → rule_day p y ≡ Some d → Exactly (RuleDay p y) (rule_day p y) → reached_by p w d ≡ t
        → (Passed p w y → LatestFound (RuledOnset p) w (latest_by_rule p w y))
        → LatestFound (RuledOnset p) w (or_else t (Some (d * 86400 + p.start % 86400)) (λ _. latest_by_rule p w y))
    by d true e q f i = stop_at p w (suc y) y _ q o (omega arith) g.month_good d e f
    by d false e q f i = i (step_at p w (suc y) y _ q o (omega arith) d e f)

    go : (r : Option ℕ) → rule_day p y ≡ r → Exactly (RuleDay p y) (rule_day p y) → (Passed p w y → LatestFound (RuledOnset p) w (latest_by_rule p w y))
        → LatestFound (RuledOnset p) w (if_reached p w r (λ _. latest_by_rule p w y))
    go None e q i = i (step_none p w (suc y) y _ q o (omega arith) e)
    go (Some d) e q i = by d _ e q refl i

pub latest_is : (p : Part) (w : ℕ) → GoodPart p → LatestFound (IsOnset p) w (latest_onset p w)
unfolding latest_onset
latest_is p w g = go (ltb w p.start) refl
  where
    by : (r : Option ℕ) → p.start ≤ w → LatestFound (RuledOnset p) w r → LatestFound (IsOnset p) w (or_start p r)
    by None h x = rule_none p w None h x refl
    by (Some t) h x = rule_found p w t (Some t) x refl

    go : (t : Bool) → ltb w p.start ≡ t
        → LatestFound (IsOnset p) w (or_else t None (λ _. or_start p (latest_by_rule p w (w / 86400 / 365 + 1))))
    go true e = before_start p w (ltb-true w p.start e)
    go false e = by (latest_by_rule p w (w / 86400 / 365 + 1)) (ltb-false w p.start e) (down p w _ g (start_plain p w))
