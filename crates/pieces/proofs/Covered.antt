-- The covered seconds: list by list, and for the reader, that some instance that stands, or some FREEBUSY period, covers the second;
-- and how many periods of each type there are.
use Prim.Native.Nat.{ℕ, suc, ◌+◌, ◌≤◌, ◌<◌}
use mathlib.Core.Path.{◌≡◌, refl, sym, ap, ◌∙◌, subst}
use mathlib.Core.Bool.{Bool, true, false, cond, ◌&&◌, ◌||◌, or_assoc}
use mathlib.Core.Logic.{◌↔◌, ◌⊎◌, inl, inr}
use mathlib.Core.List.Memᴰ
use mathlib.Core.List.{List, [], ◌∷◌, ◌++◌, Memᴰ}
use native.Mathlib.Omega.{arith}
use lib.ListN.{length}
use Rattle.time.specs.Limits.{last_second}
use Rattle.ascii.proofs.Bools.{and_left, and_right, and_both, clash, or_by_right}
use Rattle.periods.specs.declared.Period.{Period}
use Rattle.periods.specs.declared.BusyType.{BusyType}
use Rattle.periods.specs.Periods.{second_in, covers}
use Rattle.periods.proofs.Periods.{second_in_ends, second_in_true}
use Rattle.periods.specs.BusyTypes.{report_place, is_busy, same_busy, BusyPeriod}
use Rattle.periods.proofs.BusyTypes.{same_busy_iff}
use Rattle.events.specs.Events.{Entry}
use Rattle.events.specs.Sizes.{EventsSmall}
use Rattle.pieces.specs.BusyPeriods.{busy_periods}
use Rattle.pieces.specs.Covered.{of_type, covered_by, covered, Covers}
use Rattle.pieces.proofs.BusyPeriods.{listed_is, is_listed}

-- ---- lists after each other

pub covers_none : (b : BusyType) (x : ℕ) → covered_by b [] x ≡ false
unfolding covered_by of_type covers
covers_none b x = refl

pub of_type_append : (b : BusyType) (ps qs : List BusyPeriod) → of_type b (ps ++ qs) ≡ of_type b ps ++ of_type b qs
unfolding of_type
of_type_append b [] qs = refl
of_type_append b (p ∷ ps) qs = go (same_busy b p.busy) (of_type_append b ps qs)
  where
    go : (t : Bool) → of_type b (ps ++ qs) ≡ of_type b ps ++ of_type b qs
        → (elim t [ true ↦ p.period ∷ of_type b (ps ++ qs) | false ↦ of_type b (ps ++ qs) ])
        ≡ (elim t [ true ↦ p.period ∷ of_type b ps | false ↦ of_type b ps ]) ++ of_type b qs
    go true e = ap (λ (l : List Period). p.period ∷ l) e
    go false e = e

covers_append : (x : ℕ) (ps qs : List Period) → covers (ps ++ qs) x ≡ (covers ps x || covers qs x)
unfolding covers
covers_append x [] qs = refl
covers_append x (p ∷ ps) qs =
    ap (λ (t : Bool). second_in p.start p.end x || t) (covers_append x ps qs)
    ∙ sym (or_assoc (second_in p.start p.end x) (covers ps x) (covers qs x))

pub covered_by_append : (b : BusyType) (x : ℕ) (ps qs : List BusyPeriod) → covered_by b (ps ++ qs) x ≡ (covered_by b ps x || covered_by b qs x)
unfolding covered_by
covered_by_append b x ps qs = ap (λ (l : List Period). covers l x) (of_type_append b ps qs) ∙ covers_append x (of_type b ps) (of_type b qs)

-- ---- one period

-- does the period, of its type, cover the second?
unfoldable pub hits : BusyType → BusyPeriod → ℕ → Bool
hits b p x = same_busy b p.busy && second_in p.period.start p.period.end x

pub hits_first : (b : BusyType) (p : BusyPeriod) (ps : List BusyPeriod) (x : ℕ) → covered_by b (p ∷ ps) x ≡ (hits b p x || covered_by b ps x)
unfolding covered_by of_type covers hits
hits_first b p ps x = go (same_busy b p.busy)
  where
    go : (t : Bool) → covers (elim t [ true ↦ p.period ∷ of_type b ps | false ↦ of_type b ps ]) x
        ≡ (t && second_in p.period.start p.period.end x || covers (of_type b ps) x)
    go true = refl
    go false = refl

-- ---- some period of a list

-- some period of the list has the type and covers the second
pub record CoveredIn (ps : List BusyPeriod) (b : BusyType) (x : ℕ) : Type 0 where
  pub which : BusyPeriod
  pub listed : Memᴰ which ps
  pub type : which.busy ≡ b
  pub from : which.period.start ≤ x
  pub to : x < which.period.end

module _ (b : BusyType) (x : ℕ) where
  hits_holds : (p : BusyPeriod) → p.busy ≡ b → p.period.start ≤ x → x < p.period.end → hits b p x ≡ true
  unfolding hits
  hits_holds p e f g = and_both ((same_busy_iff b p.busy).1 (sym e)) (second_in_true _ _ x f g)

  hits_true : (p : BusyPeriod) (ps : List BusyPeriod) → hits b p x ≡ true → CoveredIn (p ∷ ps) b x
  unfolding hits
  hits_true p ps h =
      let k = second_in_ends _ _ x (and_right (same_busy b p.busy) _ h) in
      record {
        which = p;
        listed = Memᴰ.head refl;
        type = sym ((same_busy_iff b p.busy).0 (and_left (same_busy b p.busy) _ h));
        from = k.0;
        to = k.1;
      }

  further : {p : BusyPeriod} {ps : List BusyPeriod} → CoveredIn ps b x → CoveredIn (p ∷ ps) b x
  further i = record { which = i.which; listed = Memᴰ.tail i.listed; type = i.type; from = i.from; to = i.to }

  covered_listed : (ps : List BusyPeriod) → covered_by b ps x ≡ true → CoveredIn ps b x
  covered_listed [] h = clash h (covers_none b x)
  covered_listed (p ∷ ps) h = go (hits b p x) refl (sym (hits_first b p ps x) ∙ h) (covered_listed ps)
    where
      go : (t : Bool) → hits b p x ≡ t → (t || covered_by b ps x) ≡ true → (covered_by b ps x ≡ true → CoveredIn ps b x) → CoveredIn (p ∷ ps) b x
      go true q k f = hits_true p ps q
      go false q k f = further (f k)

  listed_covered : {p : BusyPeriod} (ps : List BusyPeriod) → Memᴰ p ps → p.busy ≡ b → p.period.start ≤ x → x < p.period.end → covered_by b ps x ≡ true
  listed_covered [] m e f g = absurd (Memᴰ.not-nil m)
  listed_covered {p} (q ∷ ps) m e f g = hits_first b q ps x ∙ go (Memᴰ.cases_cons m) (λ d. listed_covered ps d e f g)
    where
      go : (p ≡ q) ⊎ Memᴰ p ps → (Memᴰ p ps → covered_by b ps x ≡ true) → (hits b q x || covered_by b ps x) ≡ true
      go (inl d) k = ap (λ (t : Bool). t || covered_by b ps x) (subst (λ (w : BusyPeriod). hits b w x ≡ true) d (hits_holds p e f g))
      go (inr d) k = or_by_right (hits b q x) (k d)

-- ---- for the reader

module _ (b : BusyType) (es : List Entry) (x : ℕ) where
  pub covered_iff : x ≤ last_second → EventsSmall es → (covered b es x ≡ true) ↔ Covers es b x
  unfolding covered
  covered_iff l small = (
    λ h.
        let i = covered_listed b x (busy_periods es) h in
        record { which = i.which; there = listed_is es i.listed; type = i.type; from = i.from; to = i.to },
    λ c. listed_covered b x (busy_periods es) (is_listed es small (omega (arith, c.from)) c.there) c.type c.from c.to,
  )

-- ---- how many

type_first : (b : BusyType) (p : BusyPeriod) (ps : List BusyPeriod)
    → length (of_type b (p ∷ ps)) ≡ cond (same_busy b p.busy) (1 + length (of_type b ps)) (length (of_type b ps))
unfolding of_type
type_first b p ps = go (same_busy b p.busy)
  where
    go : (t : Bool) → length {A = Period} (elim t [ true ↦ p.period ∷ of_type b ps | false ↦ of_type b ps ]) ≡ cond t (1 + length (of_type b ps)) (length (of_type b ps))
    go true = omega arith
    go false = refl

one_type : (c : BusyType) (k m n : ℕ) → is_busy c ≡ true
    → cond (same_busy BusyType.Busy c) (1 + k) k + cond (same_busy BusyType.Tentative c) (1 + m) m + cond (same_busy BusyType.Unavailable c) (1 + n) n ≡ 1 + (k + m + n)
unfolding is_busy same_busy report_place
one_type BusyType.Busy k m n h = omega arith
one_type BusyType.Tentative k m n h = omega arith
one_type BusyType.Unavailable k m n h = omega arith
one_type BusyType.Free k m n h = clash h refl

by_type : (p : BusyPeriod) (ps : List BusyPeriod) → is_busy p.busy ≡ true
    → length (of_type BusyType.Busy (p ∷ ps)) + length (of_type BusyType.Tentative (p ∷ ps)) + length (of_type BusyType.Unavailable (p ∷ ps))
    ≡ 1 + (length (of_type BusyType.Busy ps) + length (of_type BusyType.Tentative ps) + length (of_type BusyType.Unavailable ps))
by_type p ps h =
    rw (type_first BusyType.Busy p ps, type_first BusyType.Tentative p ps, type_first BusyType.Unavailable p ps)
    (one_type p.busy (length (of_type BusyType.Busy ps)) (length (of_type BusyType.Tentative ps)) (length (of_type BusyType.Unavailable ps)) h)

no_type : 0 ≡ length (of_type BusyType.Busy []) + length (of_type BusyType.Tentative []) + length (of_type BusyType.Unavailable [])
unfolding of_type
no_type = refl

-- each busy period is of one of three types
pub types_count : (ps : List BusyPeriod) → ((p : BusyPeriod) → Memᴰ p ps → is_busy p.busy ≡ true)
    → length ps ≡ length (of_type BusyType.Busy ps) + length (of_type BusyType.Tentative ps) + length (of_type BusyType.Unavailable ps)
types_count [] f = no_type
types_count (p ∷ ps) f =
    let e = types_count ps (λ q m. f q (Memᴰ.tail m)) in
    let z : suc (length ps) ≡ 1 + length ps = omega arith in
    z ∙ ap (λ (n : ℕ). 1 + n) e ∙ sym (by_type p ps (f p (Memᴰ.head refl)))
