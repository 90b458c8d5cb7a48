-- How large what is read of a zone can be: a rule's month, ordinal and weekday, and the clock of an onset.
use Rattle.std.specs.Prelude.{None, Option, Some}
use Prim.Native.Nat.{ℕ, ◌+◌, ◌*◌, ◌≤◌, ◌<◌}
use mathlib.Core.Path.{◌≡◌, refl, ap}
use mathlib.Core.Bool.{Bool, true, false, cond, ◌&&◌}
use mathlib.Core.List.{List}
use native.Mathlib.Omega.{arith}
use lib.Dec.{eqb}
use lib.ListN.{length, get_or}
use Rattle.ascii.specs.Bytes.{upper}
use Rattle.time.specs.DateTime.{date_at, time_at, clock_of, clock_at, read_date_time}
use Rattle.time.specs.declared.date_time.DateTime.{DateTime}
use Rattle.time.specs.declared.date_time.Kind.{Kind}
use Rattle.time.proofs.DateTime.{date_at_small, time_at_small}
use Rattle.line.specs.Grammar.{ContentLine}
use Rattle.zone_values.specs.declared.zone_rule.ZoneRule.{ZoneRule}
use Rattle.zone_values.specs.Onset.{onset_of}
use Rattle.zone_values.specs.ZoneRule.{OrdinalIs, plain, plus, minus, YearlyRule, read_zone_rule, ZoneRuleSmall}
use Rattle.zone_values.specs.ZoneRule.{WeekdayIs, sunday, monday, tuesday, wednesday, thursday, friday, saturday}
use Rattle.zone_values.proofs.OnsetLaws.{onset_iff}
use Rattle.zone_values.proofs.ZoneRuleLaws.{rule_iff}

-- ---- the rule

weekday_small : {w : List ℕ} {k : ℕ} → WeekdayIs w k → k ≤ 6
weekday_small (sunday p) = omega arith
weekday_small (monday p) = omega arith
weekday_small (tuesday p) = omega arith
weekday_small (wednesday p) = omega arith
weekday_small (thursday p) = omega arith
weekday_small (friday p) = omega arith
weekday_small (saturday p) = omega arith

ordinal_small : {s : List ℕ} {b : Bool} {n : ℕ} → OrdinalIs s b n → n ≤ 5
ordinal_small (plain h) = h.number.greatest
ordinal_small (plus h) = h.number.greatest
ordinal_small (minus h) = h.number.greatest

small_rule : (v : List ℕ) (r : ZoneRule) → YearlyRule v r → ZoneRuleSmall r
small_rule v r h =
    let d = h.day.day_is in
    record {
      some_month = h.month.month_is.number.least;
      few_months = h.month.month_is.number.greatest;
      few_others = omega (arith, ordinal_small d.ordinal_is);
      few_weekdays = weekday_small d.weekday_is;
    }

pub read_zone_rule_small : (v : List ℕ) (r : ZoneRule) → read_zone_rule v ≡ Some r → ZoneRuleSmall r
read_zone_rule_small v r e = small_rule v r ((rule_iff v r).0 e)

-- ---- the onset

bad_date : {A : Type 0} {d : DateTime} → None ≡ Some d → A
bad_date e = let z : ◌≡◌ {A = ℕ} 0 1 = cc in absurd (omega arith)

clock_small : (k m : Kind) (l : List ℕ) (n : ℕ) → clock_at k l ≡ Some (record { kind = m; clock = n }) → n < 315569606400
unfolding clock_at clock_of
clock_small k m l n e = go (eqb (upper (get_or l 8 0)) 84) (date_at l) (time_at l) refl refl e
  where
    go : (t : Bool) (d s : Option ℕ) → date_at l ≡ d → time_at l ≡ s → cond t (clock_of k d s) None ≡ Some (record { kind = m; clock = n }) → n < 315569606400
    go true (Some a) (Some b) p q x = let d : ◌≡◌ {A = DateTime} (record { kind = k; clock = a * 86400 + b }) (record { kind = m; clock = n }) = cc in omega (arith, ap (λ (y : DateTime). y.clock) d, date_at_small l a p, time_at_small l b q)
    go true (Some a) None p q x = bad_date x
    go true None s p q x = bad_date x
    go false d s p q x = bad_date x

date_time_small : (l : List ℕ) (m : Kind) (n : ℕ) → read_date_time l ≡ Some (record { kind = m; clock = n }) → n < 315569606400
unfolding read_date_time
date_time_small l m n e = go (eqb (length l) 15) (eqb (length l) 16 && eqb (upper (get_or l 15 0)) 90) e
  where
    go : (a b : Bool) → cond a (clock_at Kind.Floating l) (cond b (clock_at Kind.Utc l) None) ≡ Some (record { kind = m; clock = n }) → n < 315569606400
    go true b x = clock_small Kind.Floating m l n x
    go false true x = clock_small Kind.Utc m l n x
    go false false x = bad_date x

-- before the year 10000 and a day
pub onset_of_small : (x : ContentLine) (n : ℕ) → onset_of x ≡ Some n → n < 315569606400
onset_of_small x n e = date_time_small x.value Kind.Floating n ((onset_iff x n).0 e).floating
