-- Laws of columns of fingerprints: a place more, a block of 64 more, and what the search has passed.
use Prim.Native.Nat.{ℕ, ◌+◌, ◌-◌, ◌≤◌, ◌<◌}
use mathlib.Core.Path.{◌≡◌, refl, subst}
use mathlib.Core.Bool.{Bool, true, false, ◌||◌}
use mathlib.Core.List.{List}
use native.Mathlib.Omega.{arith}
use lib.Dec.{eqb, ltb}
use lib.ListN.{get_or}
use borrow.Author.Tests.{eq-eqb, ltb-true, ltb-false}
use Rattle.ascii.proofs.Bools.{or_left, or_right, clash}
use Rattle.fingerprints.specs.Columns.{Nowhere, NoneNear, NewAmong}

nowhere_join : {p : List ℕ} {x from i e : ℕ} → Nowhere p x from i → Nowhere p x i e → Nowhere p x from e
nowhere_join {p} {x} {from} {i} {e} q r = record { none = λ j a b w. go j a b w (ltb j i) refl }
  where
    go : (j : ℕ) → from ≤ j → j < e → get_or p j 0 ≡ x → (t : Bool) → ltb j i ≡ t → ⊥
    go j a b w true h = q.none j a (ltb-true j i h) w
    go j a b w false h = r.none j (ltb-false j i h) b w

-- the pass through a block: k places are tested
pub record Tested (p : List ℕ) (from x k : ℕ) (r : Bool) : Type 0 where
  pub most : k ≤ 64
  pub no : r ≡ false → Nowhere p x from (from + k)

pub tested_start : (p : List ℕ) (from x : ℕ) → Tested p from x 0 false
tested_start p from x = record { most = omega arith; no = λ e. record { none = λ j a b w. absurd (omega arith) } }

module _ {p : List ℕ} {from x k : ℕ} {r : Bool} where
  pub tested_next : Tested p from x k r → k < 64 → Tested p from x (k + 1) (r || eqb (get_or p (from + k) 0) x)
  tested_next q h =
      let t : Bool = eqb (get_or p (from + k) 0) x in
      record { most = omega arith; no = λ e. nowhere_join (q.no (or_left r t e)) (one (or_right r t e)) }
    where
      one : eqb (get_or p (from + k) 0) x ≡ false → Nowhere p x (from + k) (from + (k + 1))
      one e = record {
        none = λ j a b w.
            let same : j ≡ from + k = omega arith in
            clash (eq-eqb (get_or p (from + k) 0) x (subst (λ (y : ℕ). get_or p y 0 ≡ x) same w)) e;
      }

  pub tested_end : Tested p from x k r → 64 ≤ k → NoneNear p from x r
  tested_end q h =
      let all : k ≡ 64 = omega (arith, q.most) in
      record { no = λ e. subst (λ (y : ℕ). Nowhere p x from (from + y)) all (q.no e) }

-- the search: x stands nowhere from place i on
pub record Passed (p : List ℕ) (n x i : ℕ) : Type 0 where
  pub most : i ≤ 64 + n
  pub none : Nowhere p x i (64 + n)

pub passed_start : (p : List ℕ) (n x : ℕ) → Passed p n x (64 + n)
passed_start p n x = record { most = omega arith; none = record { none = λ j a b w. absurd (omega arith) } }

pub passed_next : {p : List ℕ} {n x i : ℕ} {r : Bool} → Passed p n x i → 64 < i → NoneNear p (i - 64) x r → r ≡ false → Passed p n x (i - 64)
passed_next {p} {n} {x} {i} q h b e =
    let z : i - 64 + 64 ≡ i = omega arith in
    record { most = omega (arith, q.most); none = nowhere_join (subst (Nowhere p x (i - 64)) z (b.no e)) q.none }

pub passed_end : {p : List ℕ} {n x i : ℕ} → Passed p n x i → i ≤ 64 → NewAmong p n x true
passed_end q h = record { yes = λ e j b w. q.none.none (64 + j) (omega arith) (omega arith) w }

-- a no says nothing
pub seen : (p : List ℕ) (n x : ℕ) → NewAmong p n x false
seen p n x = record { yes = λ e. clash e refl }
