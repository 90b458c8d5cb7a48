-- Periods: how each is cut, a list of them, how late one can be, and that what is written of one reads as that one.
use Rattle.std.specs.Prelude.{None, Option, Some}
use Prim.Native.Nat.{ℕ, ◌+◌, ◌-◌, ◌≤◌, ◌<◌}
use mathlib.Core.Path.{◌≡◌, refl, sym, ap, ◌∙◌, subst}
use mathlib.Core.Bool.{Bool, true, false, cond, ◌&&◌}
use mathlib.Core.List.{List, [], ◌∷◌, ◌++◌, map}
use native.Mathlib.Omega.{arith}
use denote.Enum.Bare.{sameb}
use lib.Dec.{ltb}
use lib.ListN.{length, take, drop, length-append}
use borrow.Author.Tests.{lt-ltb, le-ltb, ltb-true}
use Rattle.ascii.specs.Bytes.{is_digit}
use Rattle.ascii.proofs.Bools.{clash}
use Rattle.line.specs.Splitting.{first_outside, next_place, before, after, split_after, plain_split}
use Rattle.line.proofs.Splitting.{closed, closed_append, closed_class, parts_one, before_closed, after_closed, before_fits, after_part, item_at, item_first, item_more, item_last, cut_test, taken_before}
use Rattle.time.specs.DateTime.{read_date_time}
use Rattle.time.specs.Limits.{last_second, utc_second}
use Rattle.time.specs.Duration.{duration_seconds, read_duration}
use Rattle.time.specs.Writing.{utc_text, is_utc_byte}
use Rattle.time.specs.declared.date_time.DateTime.{DateTime}
use Rattle.time.specs.declared.date_time.Kind.{Kind}
use Rattle.time.specs.contracts.date_time.Kind.{the_type}
use Rattle.time.specs.declared.duration.Duration.{Duration}
use Rattle.time.proofs.LimitsLaws.{utc_second_in, second_written}
use Rattle.time.proofs.DurationLaws.{duration_text_small, read_duration_in}
use Rattle.time.proofs.WritingLaws.{utc_text_bytes, read_written}
use Rattle.values.specs.Period.{utc_clock, utc_by, utc_at, end_by, period_to, period_from, period_of, period_items, is_period, all_periods, good_periods, DurationSmall, PeriodSmall}
use Rattle.periods.specs.declared.Period.{Period}

-- ---- how late a period can be

utc_clock_small : (k : Kind) (clock t : ℕ) → utc_clock k clock ≡ Some t → t ≤ last_second
utc_clock_small Kind.Utc clock t e = (utc_second_in Kind.Utc clock 0 t e).0
utc_clock_small Kind.Floating clock t e = let z : ◌≡◌ {A = ℕ} 0 1 = cc in absurd (omega arith)
utc_clock_small Kind.Date clock t e = let z : ◌≡◌ {A = ℕ} 0 1 = cc in absurd (omega arith)

utc_by_small : (d : Option DateTime) (t : ℕ) → utc_by d ≡ Some t → t ≤ last_second
unfolding utc_by
utc_by_small (Some d) t e = utc_clock_small d.kind d.clock t e
utc_by_small None t e = let z : ◌≡◌ {A = ℕ} 0 1 = cc in absurd (omega arith)

-- whether a clock is UTC, as one comparison of kinds
pub utc_clock_is : (k : Kind) (clock : ℕ) → utc_clock k clock ≡ cond (sameb the_type k Kind.Utc) (utc_second Kind.Utc clock 0) None
utc_clock_is Kind.Utc clock = refl
utc_clock_is Kind.Floating clock = refl
utc_clock_is Kind.Date clock = refl

-- a stated second is within the limits
pub utc_at_small : (l : List ℕ) (t : ℕ) → utc_at l ≡ Some t → t ≤ last_second
unfolding utc_at
utc_at_small l t e = utc_by_small (read_date_time l) t e

-- a duration that is read is small
pub read_duration_small : (l : List ℕ) (d : Duration) → read_duration l ≡ Some d → DurationSmall d
read_duration_small l d e =
    let w : (d.days ≤ 55999944) × (d.seconds ≤ 28799971200) = duration_text_small l d (read_duration_in l d e).0 in
    record { few_days = omega arith; few_seconds = omega arith; limited = (read_duration_in l d e).1 }

end_by_small : (s n : ℕ) (e : Option ℕ) (d : Option Duration) → s ≤ last_second → ((t : ℕ) → e ≡ Some t → t ≤ last_second)
    → ((x : Duration) → d ≡ Some x → duration_seconds x ≤ 315360000) → end_by s e d ≡ Some n → n ≤ last_second + 315360000
unfolding end_by
end_by_small s n (Some t) d h f g q = let z : t ≡ n = cc in omega (arith, f t refl)
end_by_small s n None (Some x) h f g q = let z : s + duration_seconds x ≡ n = cc in omega (arith, g x refl)
end_by_small s n None None h f g q = let z : ◌≡◌ {A = ℕ} 0 1 = cc in absurd (omega arith)

period_to_small : (s : ℕ) (e : Option ℕ) (p : Period) → s ≤ last_second → ((n : ℕ) → e ≡ Some n → n ≤ last_second + 315360000)
    → period_to s e ≡ Some p → PeriodSmall p
unfolding period_to
period_to_small s (Some n) p h f q = go (ltb s n) refl q
  where
    go : (t : Bool) → ltb s n ≡ t → cond t (Some (record { start = s; end = n })) None ≡ Some p → PeriodSmall p
    go true k w =
        let z : record { start = s; end = n } ≡ p = cc in
        rw (← z) (record { within_limits = h; rising = ltb-true s n k; soon_over = f n refl })
    go false k w = let z : ◌≡◌ {A = ℕ} 0 1 = cc in absurd (omega arith)
period_to_small s None p h f q = let z : ◌≡◌ {A = ℕ} 0 1 = cc in absurd (omega arith)

period_from_small : (s : Option ℕ) (l : List ℕ) (p : Period) → ((t : ℕ) → s ≡ Some t → t ≤ last_second) → period_from s l ≡ Some p → PeriodSmall p
unfolding period_from
period_from_small (Some s) l p h q =
    period_to_small s (end_by s (utc_at l) (read_duration l)) p (h s refl)
    (λ n e. end_by_small s n (utc_at l) (read_duration l) (h s refl) (λ t. utc_at_small l t) (λ x k. (read_duration_small l x k).limited) e)
    q
period_from_small None l p h q = let z : ◌≡◌ {A = ℕ} 0 1 = cc in absurd (omega arith)

-- a period that is read
pub period_of_small : (l : List ℕ) (p : Period) → period_of l ≡ Some p → PeriodSmall p
unfolding period_of
period_of_small l p e = go (ltb (first_outside false 47 false l) (length l)) e
  where
    go : (t : Bool) → cond t (period_from (utc_at (before false 47 l)) (after false 47 l)) None ≡ Some p → PeriodSmall p
    go true q = period_from_small (utc_at (before false 47 l)) (after false 47 l) p (λ t. utc_at_small (before false 47 l) t) q
    go false q = let z : ◌≡◌ {A = ℕ} 0 1 = cc in absurd (omega arith)

-- ---- with a slash, and without one

pub period_of_cut : (l a b : List ℕ) → a ≡ before false 47 l → b ≡ after false 47 l → length a < length l → period_from (utc_at a) b ≡ period_of l
unfolding period_of
period_of_cut l a b e f h = rw (sym (cut_test 47 l a e) ∙ lt-ltb (length a) (length l) h, e, f)

pub period_of_uncut : (l a : List ℕ) → a ≡ before false 47 l → length l ≤ length a → None ≡ period_of l
unfolding period_of
period_of_uncut l a e h = rw (sym (cut_test 47 l a e) ∙ le-ltb (length a) (length l) h)

-- the same by the place of the slash
module _ (l : List ℕ) (k : ℕ) (q : k ≡ next_place false 47 l 0) where
  pub period_of_at : k < length l → period_from (utc_at (take k l)) (take (length l - (k + 1)) (drop (k + 1) l)) ≡ period_of l
  period_of_at h =
      period_of_cut l (take k l) (take (length l - (k + 1)) (drop (k + 1) l)) (taken_before 47 l k q) (after_part false 47 l k q)
      (subst (λ (i : ℕ). i < length l) (before_fits false 47 l k q) h)

  pub period_of_none : length l ≤ k → None ≡ period_of l
  period_of_none h = period_of_uncut l (take k l) (taken_before 47 l k q) (subst (λ (i : ℕ). length l ≤ i) (before_fits false 47 l k q) h)

-- ---- the loop over a list: every item before `from` is a period

pub record Passed (v : List ℕ) (from : ℕ) : Type 0 where
  pub inside_list : from ≤ length v
  pub rest : all_periods (period_items (drop from v)) ≡ all_periods (period_items v)

pub passed_start : (v : List ℕ) → Passed v 0
passed_start v = record { inside_list = omega arith; rest = refl }

module _ {v : List ℕ} {from : ℕ} (e : ℕ) where
  pub passed_bad : e ≡ next_place false 44 v from → is_period (period_of (item_at v from e)) ≡ false → Passed v from → false ≡ all_periods (period_items v)
  unfolding period_items all_periods
  passed_bad q k r =
      sym (ap (λ (t : Bool). t && all_periods (map period_of (split_after false 44 v e))) k)
      ∙ ap (λ (ts : List (List ℕ)). all_periods (map period_of ts)) (sym (item_first 44 v from e r.inside_list q))
      ∙ r.rest

  pub passed_next : e ≡ next_place false 44 v from → is_period (period_of (item_at v from e)) ≡ true → e < length v → Passed v from → Passed v (e + 1)
  unfolding period_items all_periods
  passed_next q k h r =
      record {
        inside_list = omega arith;
        rest =
            sym (ap (λ (t : Bool). t && all_periods (map period_of (plain_split 44 (drop (e + 1) v)))) k)
            ∙ ap (λ (ts : List (List ℕ)). all_periods (map period_of ts)) (sym (item_more 44 v from e r.inside_list q h))
            ∙ r.rest;
      }

  pub passed_end : e ≡ next_place false 44 v from → is_period (period_of (item_at v from e)) ≡ true → length v ≤ e → Passed v from → true ≡ all_periods (period_items v)
  unfolding period_items all_periods
  passed_end q k h r =
      sym (ap (λ (t : Bool). t && true) k)
      ∙ ap (λ (ts : List (List ℕ)). all_periods (map period_of ts)) (sym (item_last 44 v from e r.inside_list q h))
      ∙ r.rest

-- ---- what is written of a period reads as that period

utc_at_written : (t : ℕ) → t ≤ last_second → utc_at (utc_text t) ≡ Some t
unfolding utc_at utc_by
utc_at_written t h = rw (read_written t h) (second_written t 0 h)

text_closed : (sep : ℕ) → is_utc_byte sep ≡ false → (t : ℕ) → closed false sep false (utc_text t) ≡ true
unfolding is_utc_byte is_digit
text_closed sep p t = closed_class false sep is_utc_byte p refl (utc_text t) (utc_text_bytes t)

no_slash : (t : ℕ) → closed false 47 false (utc_text t) ≡ true
unfolding is_utc_byte is_digit
no_slash t = text_closed 47 refl t

no_comma : (t : ℕ) → closed false 44 false (utc_text t) ≡ true
unfolding is_utc_byte is_digit
no_comma t = text_closed 44 refl t

period_to_written : (s e : ℕ) → s < e → period_to s (Some e) ≡ Some (record { start = s; end = e })
unfolding period_to
period_to_written s e h = rw (lt-ltb s e h)

period_from_written : (s e : ℕ) → s < e → s ≤ last_second → e ≤ last_second
    → period_from (utc_at (utc_text s)) (utc_text e) ≡ Some (record { start = s; end = e })
unfolding period_from end_by
period_from_written s e h k m = rw (utc_at_written s k, utc_at_written e m) (period_to_written s e h)

slash_shorter : (s e : ℕ) → length (utc_text s) < length (utc_text s ++ (47 ∷ utc_text e))
slash_shorter s e = simp length-append (omega arith)

pub period_of_written : (s e : ℕ) → s < e → e ≤ last_second → period_of (utc_text s ++ (47 ∷ utc_text e)) ≡ Some (record { start = s; end = e })
period_of_written s e h k =
    sym (period_of_cut (utc_text s ++ (47 ∷ utc_text e)) (utc_text s) (utc_text e)
    (sym (before_closed false 47 (utc_text s) (utc_text e) (no_slash s)))
    (sym (after_closed false 47 (utc_text s) (utc_text e) (no_slash s)))
    (slash_shorter s e))
    ∙ period_from_written s e h (omega arith) k

-- alone on its line it is the one period of the list
pub period_items_written : (s e : ℕ) → s < e → e ≤ last_second
    → period_items (utc_text s ++ (47 ∷ utc_text e)) ≡ Some (record { start = s; end = e }) ∷ []
unfolding period_items plain_split
period_items_written s e h k =
    ap (map period_of) (parts_one false 44 false (utc_text s ++ (47 ∷ utc_text e))
    (closed_append false 44 false (utc_text s) (47 ∷ utc_text e) (no_comma s) (no_comma e)))
    ∙ ap (λ (r : Option Period). r ∷ []) (period_of_written s e h k)

-- where all are periods, none is left out
pub good_periods_all : (ps : List (Option Period)) → all_periods ps ≡ true → map Some (good_periods ps) ≡ ps
unfolding all_periods good_periods
good_periods_all [] e = refl
good_periods_all (Some p ∷ ps) e = ap (λ (l : List (Option Period)). Some p ∷ l) (good_periods_all ps e)
good_periods_all (None ∷ ps) e = clash e refl
