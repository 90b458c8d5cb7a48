-- From period to period of a FREEBUSY value: what is passed over is no period.
use Rattle.std.specs.Prelude.{None, Option, Some}
use Prim.Native.Nat.{ℕ, ◌+◌, ◌≤◌, ◌<◌}
use mathlib.Core.Path.{◌≡◌, refl, sym, ap, ◌∙◌, subst}
use mathlib.Core.Bool.{Bool, true, false}
use mathlib.Core.List.{List, [], ◌∷◌, map}
use native.Mathlib.Omega.{arith}
use lib.Dec.{ltb}
use lib.ListN.{length, drop}
use borrow.Author.Tests.{ltb-true, ltb-false}
use Rattle.ascii.proofs.Lists.{drop_end}
use Rattle.line.specs.Splitting.{first_outside, next_place, split_parts, plain_split}
use Rattle.values.specs.Period.{period_of, period_items, good_periods}
use Rattle.periods.specs.declared.Period.{Period}
use Rattle.line.proofs.Splitting.{item_at, item_rises, item_inside, item_more, item_last}
use Rattle.values.proofs.PeriodLaws.{period_of_small}
use Rattle.calendar.specs.Periods.{periods_from, behind, NextPeriod, NoPeriod, PeriodAt}

-- from place 0 on they are all
pub periods_all : (v : List ℕ) → periods_from v 0 ≡ good_periods (period_items v)
unfolding periods_from
periods_all v = refl

-- nothing is a period of no bytes
no_bytes : good_periods (period_items []) ≡ []
unfolding period_items plain_split split_parts period_of first_outside good_periods
no_bytes = refl

periods_past : (v : List ℕ) (from : ℕ) → length v ≤ from → periods_from v from ≡ []
unfolding periods_from
periods_past v from h = ap (λ (l : List ℕ). good_periods (period_items l)) (drop_end v from h) ∙ no_bytes

-- the first item, and the periods behind it
with_first : (x : Option Period) (xs ys : List (Option Period)) → good_periods xs ≡ good_periods ys → good_periods (x ∷ xs) ≡ good_periods (x ∷ ys)
unfolding good_periods
with_first (Some p) xs ys e = ap (λ (l : List Period). p ∷ l) e
with_first None xs ys e = e

behind_in : (v : List ℕ) (e : ℕ) → ltb e (length v) ≡ true → behind v e ≡ e + 1
unfolding behind
behind_in v e t = rw t

behind_out : (v : List ℕ) (e : ℕ) → ltb e (length v) ≡ false → behind v e ≡ e
unfolding behind
behind_out v e t = rw t

module _ (v : List ℕ) {at e next : ℕ} (h : at < length v) (q : e ≡ next_place false 44 v at) (w : next ≡ behind v e) where
  pub period_onward : (at < next) × (next ≤ length v)
  period_onward = go (ltb e (length v)) refl
    where
      go : (t : Bool) → ltb e (length v) ≡ t → (at < next) × (next ≤ length v)
      go true t =
          let n : next ≡ e + 1 = w ∙ behind_in v e t in
          (omega (arith, item_rises 44 v at e q), omega (arith, ltb-true e (length v) t))
      go false t =
          let n : next ≡ e = w ∙ behind_out v e t in
          (omega (arith, ltb-false e (length v) t), omega (arith, item_inside 44 v at e (omega arith) q))

  period_first : periods_from v at ≡ good_periods (period_of (item_at v at e) ∷ period_items (drop next v))
  unfolding periods_from period_items good_periods
  period_first = go (ltb e (length v)) refl
    where
      go : (t : Bool) → ltb e (length v) ≡ t
          → good_periods (map period_of (plain_split 44 (drop at v))) ≡ good_periods (period_of (item_at v at e) ∷ map period_of (plain_split 44 (drop next v)))
      go true t =
          ap (λ (l : List (List ℕ)). good_periods (map period_of l)) (item_more 44 v at e (omega arith) q (ltb-true e (length v) t))
          ∙ ap (λ (n : ℕ). good_periods (period_of (item_at v at e) ∷ map period_of (plain_split 44 (drop n v)))) (sym (w ∙ behind_in v e t))
      go false t =
          let n : next ≡ e = w ∙ behind_out v e t in
          ap (λ (l : List (List ℕ)). good_periods (map period_of l)) (item_last 44 v at e (omega arith) q (ltb-false e (length v) t))
          ∙ with_first (period_of (item_at v at e)) [] (map period_of (plain_split 44 (drop next v)))
          (sym (periods_past v next (omega (arith, ltb-false e (length v) t))))

-- what stands between the two places is no period
pub record Leaving (v : List ℕ) (from at : ℕ) : Type 0 where
  pub onward : from ≤ at
  pub rest : periods_from v from ≡ periods_from v at

pub leaving_start : (v : List ℕ) (from : ℕ) → Leaving v from from
leaving_start v from = record { onward = omega arith; rest = refl }

module _ {v : List ℕ} {from at : ℕ} (r : Leaving v from at) where
  module _ {e next : ℕ} {x : Option Period} (h : at < length v) (q : e ≡ next_place false 44 v at) (w : next ≡ behind v e)
      (y : x ≡ period_of (item_at v at e)) where
    period_here : periods_from v from ≡ good_periods (x ∷ period_items (drop next v))
    period_here = r.rest ∙ period_first v h q w ∙ ap (λ (z : Option Period). good_periods (z ∷ period_items (drop next v))) (sym y)

    pub leaving_bad : x ≡ None → Leaving v from next
    unfolding good_periods periods_from
    leaving_bad z =
        record {
          onward = omega (arith, r.onward, (period_onward v h q w).0);
          rest = period_here ∙ ap (λ (p : Option Period). good_periods (p ∷ period_items (drop next v))) z;
        }

    pub leaving_found : (p : Period) → x ≡ Some p → PeriodAt v from (Some (p, next))
    unfolding good_periods periods_from PeriodAt
    leaving_found p z =
        record {
          onward = omega (arith, r.onward, (period_onward v h q w).0);
          within = (period_onward v h q w).1;
          small = period_of_small (item_at v at e) p (sym y ∙ z);
          periods = period_here ∙ ap (λ (g : Option Period). good_periods (g ∷ period_items (drop next v))) z;
        }

  pub leaving_end : length v ≤ at → PeriodAt v from None
  unfolding PeriodAt
  leaving_end h = record { periods = r.rest ∙ periods_past v at h }

-- what a caller learns
pub next_period_at : {v : List ℕ} {from : ℕ} {r : Option (Period × ℕ)} (p : Period) (next : ℕ) → PeriodAt v from r → r ≡ Some (p, next)
    → NextPeriod v from p next
unfolding PeriodAt
next_period_at {v} {from} p next h q = subst (PeriodAt v from) q h

pub no_period_at : {v : List ℕ} {from : ℕ} {r : Option (Period × ℕ)} → PeriodAt v from r → r ≡ None → NoPeriod v from
unfolding PeriodAt
no_period_at {v} {from} h q = subst (PeriodAt v from) q h
