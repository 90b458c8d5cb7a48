-- Laws of changes: walking up through the years finds the next onset, and up to it, and up to a gap's end, the offset is one.
use Rattle.std.specs.Prelude.{None, Option, Some}
use Prim.Native.Nat.{ℕ, suc, ◌+◌, ◌-◌, ◌*◌, ◌/◌, ◌%◌, ◌≤◌, ◌<◌}
use mathlib.Core.Path.{◌≡◌, refl, sym}
use native.Mathlib.Omega.{arith}
use native.Mathlib.Decide.{dec_lt}
use borrow.Author.Tests.{lt-ltb, le-ltb}
use Rattle.time.specs.Days.{days_before_year}
use Rattle.zones.specs.declared.Part.{Part}
use Rattle.zones.specs.declared.Steady.{Steady}
use Rattle.zones.specs.declared.offsets.Governing.{Governing}
use Rattle.zones.specs.Parts.{GoodPart, Exactly, clock_end}
use Rattle.zones.specs.RuleDays.{RuleDay}
use Rattle.zones.specs.Onsets.{RuledOnset, IsOnset, at_start, by_rule_holds}
use Rattle.zones.specs.Offsets.{Governs, BeforeAny, OpeningPart, GoverningFound, offset_after, IsOffset, after, before}
use Rattle.zones.specs.Changes.{NoneUntil, QuietUntil, StaysAfter, SteadyUntil}
use Rattle.zones.proofs.Parts.{clock_end_lem, same_found}
use Rattle.zones.proofs.RuleDayYears.{year_low, years_rise, day_begun, day_over, day_order, no_rule}
use Rattle.zones.proofs.OnsetsLaws.{start_least}
use Rattle.zones.proofs.OffsetsLaws.{upto}
use Rattle.zones.proofs.OffsetsComputed.{offset_iff}

-- ---- the walk

pub begun_first : (d : ℕ) → days_before_year 0 ≤ d
unfolding days_before_year
begun_first d = omega arith

pub begun : (d : ℕ) → (d ≡ 0 → ⊥) → days_before_year (400 * (d - 1) / 146097) ≤ d
begun d h = omega (arith, year_low (400 * (d - 1) / 146097) (d - 1) (omega arith))

-- no rule's day of the years before y comes after w
pub record Over (p : Part) (w y : ℕ) : Type 0 where
  pub past : (z d : ℕ) → z < y → RuleDay p z d → d * 86400 + p.start % 86400 ≤ w

pub over_start : (p : Part) (w y : ℕ) → p.month ≤ 12 → days_before_year y ≤ w / 86400 → Over p w y
over_start p w y m h = record { past = λ z d l x. omega (arith, day_over p z d m x, years_rise (suc z) y (omega arith)) }

module _ (p : Part) (w y : ℕ) (r : Option ℕ) (q : Exactly (RuleDay p y) r) (o : Over p w y) where
  -- the first day after w is the next
  pub next_at : p.month ≤ 12 → (d : ℕ) → r ≡ Some d → w < d * 86400 + p.start % 86400
      → NoneUntil (RuledOnset p) w (d * 86400 + p.start % 86400)
  next_at m d e h =
      record {
        later = h;
        none = λ u x a b. go u x.year x.day x.is_rule_day x.clock a b (dec_lt x.year y) (dec_lt y x.year);
      }
    where
      go : (u z d' : ℕ) → RuleDay p z d' → u ≡ d' * 86400 + p.start % 86400 → w < u → u < d * 86400 + p.start % 86400
          → Dec (z < y) → Dec (y < z) → ⊥
      go u z d' x c a b (yes f) g = omega (arith, o.past z d' f x)
      go u z d' x c a b (no f) (yes g) = omega (arith, day_order p y z d d' m (q.is_so d e) x g)
      go u z d' x c a b (no f) (no g) =
          let i : z ≡ y = omega arith in
          omega (arith, same_found (q.no_other d' (rw i at x)) e)

-- no year of four digits has one
pub over_end : (p : Part) (w y : ℕ) → Over p w y → 10000 ≤ y → w < clock_end → NoneUntil (RuledOnset p) w clock_end
over_end p w y o h l =
    record { later = l; none = λ u x a b. go u x.year x.day x.is_rule_day x.clock a b (dec_lt x.year y) }
  where
    go : (u z d : ℕ) → RuleDay p z d → u ≡ d * 86400 + p.start % 86400 → w < u → u < clock_end → Dec (z < y) → ⊥
    go u z d x c a b (yes f) = omega (arith, o.past z d f x)
    go u z d x c a b (no f) = omega (arith, years_rise 10000 z (omega arith), day_begun p z d x, clock_end_lem)

-- ---- with DTSTART

pub next_start : (p : Part) (w : ℕ) → w < p.start → NoneUntil (IsOnset p) w p.start
next_start p w h = record { later = h; none = λ u o a b. omega (arith, start_least p u o) }

pub next_by : (p : Part) (w r : ℕ) → p.start ≤ w → NoneUntil (RuledOnset p) w r → NoneUntil (IsOnset p) w r
next_by p w r h x = record { later = x.later; none = go }
  where
    go : (u : ℕ) → IsOnset p u → w < u → u < r → ⊥
    go u (at_start e) a b = omega arith
    go u (by_rule_holds y) a b = x.none u y a b

pub next_without : (p : Part) (w r : ℕ) → p.start ≤ w → p.month ≡ 0 → w < r → NoneUntil (IsOnset p) w r
next_without p w r h e l = next_by p w r h (record { later = l; none = λ u x a b. no_rule p x.year x.day e x.is_rule_day })

-- ---- over all parts

pub quiet_start : (at : ℕ → Part) (w : ℕ) → w < clock_end → QuietUntil at 0 w clock_end
quiet_start at w h = record { later = h; in_time = omega arith; none = λ j u l. absurd (omega arith) }

module _ (at : ℕ → Part) (k w least : ℕ) (p : Part) (t : ℕ) (x : QuietUntil at k w least) (e : p ≡ at k) (y : NoneUntil (IsOnset p) w t) where
  here : NoneUntil (IsOnset (at k)) w t
  here = rw e at y

  pub quiet_lower : t < least → QuietUntil at (k + 1) w t
  quiet_lower h =
      record {
        later = y.later;
        in_time = omega (arith, x.in_time);
        none = upto at k (λ j u. w < u → u < t → ⊥) (λ j u l o a b. x.none j u l o a (omega arith)) here.none;
      }

  pub quiet_kept : least ≤ t → QuietUntil at (k + 1) w least
  quiet_kept h =
      record {
        later = x.later;
        in_time = x.in_time;
        none = upto at k (λ j u. w < u → u < least → ⊥) x.none (λ u o a b. here.none u o a (omega arith));
      }

pub quiet_done : (at : ℕ → Part) (i n w r : ℕ) → i ≤ n → n ≤ i → QuietUntil at i w r → QuietUntil at n w r
quiet_done at i n w r h k x = let e : i ≡ n = omega arith in rw e at x

-- ---- after an onset

module _ (p : Part) (t w next : ℕ) (h : t ≤ w) where
  pub stays_gap : w < next → w - t + p.from < p.to → t + p.to < next + p.from
      → StaysAfter p t w next (record { offset = p.from; until = t + p.to - p.from })
  unfolding offset_after
  stays_gap l a b =
      record {
        later = omega arith;
        not_past = omega arith;
        same = λ v g u. rw (lt-ltb (v - t + p.from) p.to (omega arith)) refl;
      }

  pub stays_from : w < next → w - t + p.from < p.to → next + p.from ≤ t + p.to → StaysAfter p t w next (record { offset = p.from; until = next })
  unfolding offset_after
  stays_from l a b =
      record {
        later = l;
        not_past = omega arith;
        same = λ v g u. rw (lt-ltb (v - t + p.from) p.to (omega arith)) refl;
      }

  pub stays_to : w < next → p.to ≤ w - t + p.from → StaysAfter p t w next (record { offset = p.to; until = next })
  unfolding offset_after
  stays_to l a =
      record {
        later = l;
        not_past = omega arith;
        same = λ v g u. rw (le-ltb (v - t + p.from) p.to (omega arith)) refl;
      }

-- ---- between neighbouring onsets nothing changes

module _ (at : ℕ → Part) (n w next : ℕ) (q : QuietUntil at n w next) (v : ℕ) (l : w ≤ v) (m : v < next) where
  -- what is reached by v is reached by w
  reached_before : (j u : ℕ) → j < n → IsOnset (at j) u → u ≤ v → u ≤ w
  reached_before j u h o k = go (dec_lt w u)
    where
      go : Dec (w < u) → u ≤ w
      go (yes a) = absurd (q.none j u h o a (omega arith))
      go (no a) = omega arith

  pub governs_on : (i t : ℕ) → Governs at n w i t → Governs at n v i t
  governs_on i t x =
      record {
        listed = x.listed;
        is_onset = x.is_onset;
        reached = omega (arith, x.reached);
        greatest = λ j u h o k. x.greatest j u h o (reached_before j u h o k);
        last = x.last;
      }

  pub before_on : BeforeAny at n w → BeforeAny at n v
  before_on x j u h o k = x j u h o (reached_before j u h o k)

module _ (at : ℕ → Part) (n w : ℕ) (h : 1 ≤ n) (g : (i : ℕ) → i < n → GoodPart (at i)) where
  steady_by : (r : Steady) → w < r.until → ((v : ℕ) → w ≤ v → v < r.until → IsOffset at n v r.offset) → SteadyUntil at n w r
  steady_by r l f =
      record {
        offset_is = (offset_iff at n w h g r.offset).1 (f w (omega arith) l);
        later = l;
        same = λ v a b. sym ((offset_iff at n v h g r.offset).1 (f v a b));
      }

  module _ (next : ℕ) (q : QuietUntil at n w next) (f : Option Governing) (x : GoverningFound at n w f) (p : Part) where
    pub steady_after_onset : (r : Steady) (e : Governing) → f ≡ Some e → p ≡ at e.part → StaysAfter p e.clock w next r → SteadyUntil at n w r
    steady_after_onset r e s i y =
        steady_by r y.later
        (λ v a b.
        after e.part e.clock (governs_on at n w next q v a (omega (arith, y.not_past)) e.part e.clock (x.found e s))
        (rw i at (y.same v a b)))

    pub steady_before_any : f ≡ None → (i : ℕ) → OpeningPart at n i → p ≡ at i → SteadyUntil at n w (record { offset = p.from; until = next })
    steady_before_any s i o j =
        steady_by (record { offset = p.from; until = next }) q.later
        (λ v a b. before i (at i).start (before_on at n w next q v a b (x.none s)) o (rw j refl))
