-- A table: two columns as a list of periods, under take, drop and append;
-- what adding comes to, the rows one by one, and how many they are.
use Prim.Native.Nat.{ℕ, zero, suc, ◌+◌, ◌≤◌, ◌<◌}
use mathlib.Core.Path.{◌≡◌, refl, sym, ap, ◌∙◌}
use mathlib.Core.List.{List, [], ◌∷◌, ◌++◌}
use native.Mathlib.Numerals.{add-one}
use native.Mathlib.Omega.{arith}
use lib.ListN.{length, take, drop, get_or, length-take, length-drop, drop_of_length-le}
use lib.Seq.{drop-cons, get_or-take, length-take-le, take-add, take-take, drop_at}
use Rattle.periods.specs.declared.Period.{Period}
use Rattle.periods.specs.Periods.{period}
use Rattle.table.specs.Tables.{rows, PeriodTable, table_at, listed, Sound}

module _ {A : Type 0} (a : List A) (n i : ℕ) where
  -- of the first n elements, what is left at i is the element there and what is left after it
  pub take_next : (d : A) → i < n → i < length a → drop i (take n a) ≡ get_or a i d ∷ drop (i + 1) (take n a)
  take_next d h k =
      rw add-one
      (drop-cons (take n a) i d (omega (arith, length-take n a))
      ∙ ap (λ (x : A). x ∷ drop (suc i) (take n a)) (get_or-take n a i d h))

  pub take_end : n ≤ i → drop i (take n a) ≡ []
  take_end h =
      let short : length (take n a) ≤ i = omega (arith, length-take n a) in
      drop_of_length-le (take n a) short

pub rows_take : (n : ℕ) (ss es : List ℕ) → take n (rows ss es) ≡ rows (take n ss) (take n es)
unfolding rows
rows_take zero ss es = refl
rows_take (suc n) [] es = refl
rows_take (suc n) (s ∷ ss) [] = refl
rows_take (suc n) (s ∷ ss) (e ∷ es) = ap (λ (l : List Period). period s e ∷ l) (rows_take n ss es)

rows_none : (ss : List ℕ) → rows ss [] ≡ []
unfolding rows
rows_none [] = refl
rows_none (s ∷ ss) = refl

pub rows_drop : (n : ℕ) (ss es : List ℕ) → drop n (rows ss es) ≡ rows (drop n ss) (drop n es)
unfolding rows
rows_drop zero ss es = refl
rows_drop (suc n) [] es = refl
rows_drop (suc n) (s ∷ ss) [] = sym (rows_none (drop n ss))
rows_drop (suc n) (s ∷ ss) (e ∷ es) = rows_drop n ss es

pub rows_append : (ss es us vs : List ℕ) → length ss ≡ length es → rows (ss ++ us) (es ++ vs) ≡ rows ss es ++ rows us vs
unfolding rows
rows_append [] [] us vs h = refl
rows_append [] (e ∷ es) us vs h = absurd (omega arith)
rows_append (s ∷ ss) [] us vs h = absurd (omega arith)
rows_append (s ∷ ss) (e ∷ es) us vs h = ap (λ (l : List Period). period s e ∷ l) (rows_append ss es us vs (omega arith))

pub rows_length : (ss es : List ℕ) → length ss ≡ length es → length (rows ss es) ≡ length ss
unfolding rows
rows_length [] es h = refl
rows_length (s ∷ ss) [] h = absurd (omega arith)
rows_length (s ∷ ss) (e ∷ es) h = ap (λ (n : ℕ). suc n) (rows_length ss es (omega arith))

-- of the first n rows, what is left at i is the row there and what is left after it
pub rows_next : (ss es : List ℕ) (n i : ℕ) → i < n → i < length ss → i < length es
    → drop i (take n (rows ss es)) ≡ period (get_or ss i 0) (get_or es i 0) ∷ drop (i + 1) (take n (rows ss es))
unfolding rows
rows_next ss es n i h k l =
    rw (rows_take n ss es, rows_drop i (take n ss) (take n es), rows_drop (i + 1) (take n ss) (take n es))
    (rw (take_next ss n i 0 h k, take_next es n i 0 h l))

-- row i of a table is a period: it stands first in what is left from i on
pub record RowAt (t : PeriodTable) (i : ℕ) (p : Period) : Type 0 where
  pub left : drop i (listed t) ≡ p ∷ drop (i + 1) (listed t)

-- what row i is, by its two columns
pub row_at : (t : PeriodTable) (i : ℕ) {s e : ℕ} → Sound t → i < t.count → s ≡ get_or t.starts i 0 → e ≡ get_or t.ends i 0 → RowAt t i (period s e)
unfolding listed
row_at t i good h p q =
    record {
      left =
          rw (p, q)
          (rows_next t.starts t.ends t.count i h
          (omega (arith, good.few))
          (omega (arith, good.few, good.even)));
    }

-- nothing is left past the last row
pub rows_end : (t : PeriodTable) (i : ℕ) → t.count ≤ i → drop i (listed t) ≡ []
unfolding listed
rows_end t i h = take_end (rows t.starts t.ends) t.count i h

-- a table lists as many periods as it counts
pub listed_length : (t : PeriodTable) → Sound t → length (listed t) ≡ t.count
unfolding listed
listed_length t good =
    length-take-le t.count (rows t.starts t.ends)
    (omega (arith, rows_length t.starts t.ends (sym good.even), good.few))

-- ---- rows from a place on

module _ (k n : ℕ) (ss es : List ℕ) where
  pub table_sound : k + n ≤ length ss → length es ≡ length ss → Sound (table_at k n ss es)
  table_sound h e = record { few = omega (arith, length-drop k ss); even = omega (arith, length-drop k ss, length-drop k es) }

  pub table_fits : Sound (table_at k n ss es) → k ≤ length ss → k + n ≤ length ss
  table_fits g h = omega (arith, g.few, length-drop k ss)

  -- rows are the first ones of what is left from their place on
  pub listed_at : listed (table_at k n ss es) ≡ rows (take n (drop k ss)) (take n (drop k es))
  unfolding listed
  listed_at = rows_take n (drop k ss) (drop k es)

drop_take : (j n : ℕ) (c : List ℕ) → j + n ≤ length c → take n (drop j c) ≡ drop j (take (j + n) c)
drop_take j n c h = sym (ap (drop j) (take-add j n c) ∙ drop_at (take j c) (take n (drop j c)) j (length-take-le j c (omega arith)))

-- rows stay where what stands before some place behind them stays
pub listed_kept : (k n m : ℕ) (ss es us vs : List ℕ) → k + n ≤ m → m ≤ length ss → length es ≡ length ss → length us ≡ length ss → length vs ≡ length ss
    → take m us ≡ take m ss → take m vs ≡ take m es → listed (table_at k n us vs) ≡ listed (table_at k n ss es)
listed_kept k n m ss es us vs h l e f g p q =
    listed_at k n us vs ∙ rw (same ss us l f p, same es vs (omega arith) (omega arith) q) (sym (listed_at k n ss es))
  where
    same : (c d : List ℕ) → m ≤ length c → length d ≡ length c → take m d ≡ take m c → take n (drop k d) ≡ take n (drop k c)
    same c d i j t =
        drop_take k n d (omega arith)
        ∙ ap (drop k) (sym (take-take (k + n) m d h) ∙ ap (take (k + n)) t ∙ take-take (k + n) m c h)
        ∙ sym (drop_take k n c (omega arith))
