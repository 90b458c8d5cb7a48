-- Storing pieces behind pieces: two runs as one, nothing stored where nothing is to store or no room is left.
use Prim.Native.Nat.{ℕ, zero, suc, ◌+◌, ◌-◌, ◌*◌, ◌≤◌, ◌<◌}
use mathlib.Core.Path.{◌≡◌, refl, sym, ap, ◌∙◌}
use mathlib.Core.List.{List, [], ◌∷◌, ◌++◌}
use native.Mathlib.Omega.{arith}
use lib.ListN.{length, take, set, length-append}
use lib.Seq.{sets, length-sets, lt-length-set, take-nil, take_all}
use Rattle.time.proofs.Stores.{sets_append}
use Rattle.periods.specs.BusyTypes.{report_place, BusyPeriod}
use Rattle.pieces.specs.Columns.{flat, stored, Stored}

flat_append : (ps qs : List BusyPeriod) → flat (ps ++ qs) ≡ flat ps ++ flat qs
unfolding flat
flat_append [] qs = refl
flat_append (p ∷ ps) qs = ap (λ (l : List ℕ). p.period.start ∷ p.period.end ∷ report_place p.busy ∷ l) (flat_append ps qs)

pub flat_length : (ps : List BusyPeriod) → length (flat ps) ≡ 3 * length ps
unfolding flat
flat_length [] = refl
flat_length (p ∷ ps) = omega (arith, flat_length ps)

-- the first m of two lists after each other
take_both : (m : ℕ) (ps qs : List BusyPeriod) → take m (ps ++ qs) ≡ take m ps ++ take (m - length (take m ps)) qs
take_both zero ps qs = refl
take_both (suc m) [] qs = ap (λ (k : ℕ). take k qs) (let z : suc m ≡ suc m - 0 = omega arith in z)
take_both (suc m) (p ∷ ps) qs =
    ap (λ (l : List BusyPeriod). p ∷ l)
    (take_both m ps qs
    ∙ ap (λ (k : ℕ). take m ps ++ take k qs) (let z : m - length (take m ps) ≡ suc m - suc (length (take m ps)) = omega arith in z))

take_few : (m : ℕ) (ps : List BusyPeriod) → length (take m ps) ≤ m
take_few zero ps = omega arith
take_few (suc m) [] = omega arith
take_few (suc m) (p ∷ ps) = omega (arith, take_few m ps)

-- fewer than m were taken: that is all
take_whole : (m : ℕ) (ps : List BusyPeriod) → length (take m ps) < m → take m ps ≡ ps
take_whole zero ps h = absurd (omega arith)
take_whole (suc m) [] h = refl
take_whole (suc m) (p ∷ ps) h = ap (λ (l : List BusyPeriod). p ∷ l) (take_whole m ps (omega arith))

pub stored_append : (n : ℕ) (ps qs : List BusyPeriod) → stored n (ps ++ qs) ≡ stored n ps ++ stored (n + length (stored n ps)) qs
unfolding stored
stored_append n ps qs =
    take_both (513 - n) ps qs
    ∙ ap (λ (k : ℕ). take (513 - n) ps ++ take k qs)
    (let z : 513 - n - length (take (513 - n) ps) ≡ 513 - (n + length (take (513 - n) ps)) = omega arith in z)

stored_one : (n : ℕ) (p : BusyPeriod) → n < 513 → stored n (p ∷ []) ≡ p ∷ []
unfolding stored
stored_one n p h = take_all (513 - n) (p ∷ []) (omega arith)

-- nothing to store
pub stored_none : (o : List ℕ) (n : ℕ) → Stored o n [] o n
unfolding stored flat
stored_none o n =
    record {
      numbers = sym (ap (λ (l : List BusyPeriod). sets o (3 * n) (flat l)) (take-nil (513 - n)));
      count = sym (ap (λ (l : List BusyPeriod). n + length l) (take-nil (513 - n)) ∙ (let z : n + 0 ≡ n = omega arith in z));
    }

-- no room is left
pub stored_full : (o : List ℕ) (n : ℕ) (ps : List BusyPeriod) → 513 ≤ n → Stored o n ps o n
unfolding stored flat
stored_full o n ps h =
    let z : 513 - n ≡ 0 = omega arith in
    record {
      numbers = sym (ap (λ (k : ℕ). sets o (3 * n) (flat (take k ps))) z);
      count = sym (ap (λ (k : ℕ). n + length (take k ps)) z ∙ (let w : n + 0 ≡ n = omega arith in w));
    }

-- one piece
pub stored_piece : {o o' : List ℕ} {n r : ℕ} (p : BusyPeriod) → n < 513
    → o' ≡ sets o (3 * n) (p.period.start ∷ p.period.end ∷ report_place p.busy ∷ []) → r ≡ n + 1 → Stored o n (p ∷ []) o' r
unfolding flat
stored_piece {o} {o'} {n} p h e q =
    record {
      numbers = e ∙ sym (ap (λ (l : List BusyPeriod). sets o (3 * n) (flat l)) (stored_one n p h));
      count = q ∙ sym (ap (λ (l : List BusyPeriod). n + length l) (stored_one n p h));
    }

module _ {o o' : List ℕ} {n r : ℕ} {ps : List BusyPeriod} (h : Stored o n ps o' r) where
  pub stored_few : n ≤ 513 → r ≤ 513
  unfolding stored
  stored_few k = omega (arith, h.count, take_few (513 - n) ps)

  pub stored_long : length o' ≡ length o
  stored_long = ap length h.numbers ∙ length-sets o (3 * n) (flat (stored n ps))

  pub stored_as : {qs : List BusyPeriod} → ps ≡ qs → Stored o n qs o' r
  stored_as e =
      record {
        numbers = h.numbers ∙ ap (λ (l : List BusyPeriod). sets o (3 * n) (flat (stored n l))) e;
        count = h.count ∙ ap (λ (l : List BusyPeriod). n + length (stored n l)) e;
      }

  -- where fewer than 513 are stored, all are
  pub stored_all : r < 513 → stored n ps ≡ ps
  unfolding stored
  stored_all k = take_whole (513 - n) ps (omega (arith, h.count))

  -- one run behind another
  pub stored_then : {o'' : List ℕ} {t : ℕ} {qs : List BusyPeriod} → Stored o' r qs o'' t → Stored o n (ps ++ qs) o'' t
  stored_then {o''} {t} {qs} k =
      let m : ℕ = length (stored n ps) in
      let e : 3 * r ≡ 3 * n + 3 * m = omega (arith, h.count) in
      let q : stored r qs ≡ stored (n + m) qs = ap (λ (i : ℕ). stored i qs) h.count in
      record {
        numbers =
            k.numbers
            ∙ ap (λ (l : List ℕ). sets l (3 * r) (flat (stored r qs))) h.numbers
            ∙ ap (λ (i : ℕ). sets (sets o (3 * n) (flat (stored n ps))) i (flat (stored r qs))) e
            ∙ sets_append o (flat (stored n ps)) (flat (stored r qs)) (3 * n) (3 * m) (flat_length (stored n ps))
            ∙ ap (λ (l : List BusyPeriod). sets o (3 * n) (flat (stored n ps) ++ flat l)) q
            ∙ ap (sets o (3 * n)) (sym (flat_append (stored n ps) (stored (n + m) qs)))
            ∙ ap (λ (l : List BusyPeriod). sets o (3 * n) (flat l)) (sym (stored_append n ps qs));
        count =
            k.count
            ∙ ap (λ (l : List BusyPeriod). r + length l) q
            ∙ (let z : r + length (stored (n + m) qs) ≡ n + length (stored n ps ++ stored (n + m) qs) = omega (arith, h.count, length-append (stored n ps) (stored (n + m) qs)) in z)
            ∙ ap (λ (l : List BusyPeriod). n + length l) (sym (stored_append n ps qs));
      }

-- three stores, one behind the other
pub three_stores : (o : List ℕ) (i x y z : ℕ) → set (set (set o i x) (i + 1) y) (i + 2) z ≡ sets o i (x ∷ y ∷ z ∷ [])
three_stores o i x y z =
    ap (λ (k : ℕ). set (set (set o i x) k y) (i + 2) z) (let e : i + 1 ≡ suc i = omega arith in e)
    ∙ ap (λ (k : ℕ). set (set (set o i x) (suc i) y) k z) (let e : i + 2 ≡ suc (suc i) = omega arith in e)

-- two stores leave every index in bounds
pub stored_twice : (o : List ℕ) (i x j y : ℕ) {k : ℕ} → k < length o → k < length (set (set o i x) j y)
stored_twice o i x j y h = lt-length-set (set o i x) j y (lt-length-set o i x h)
