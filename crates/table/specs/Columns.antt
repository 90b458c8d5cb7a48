-- What the steps of adding do to the two columns.
use Rattle.std.specs.Prelude.{ℕ, suc, zero, ◌+◌, ◌-◌, ◌≤◌, ◌≡◌, true, false, List, [], ◌∷◌, ◌++◌, ltb, length, take, drop}
use Rattle.periods.specs.Periods.{period}
use Rattle.table.specs.Inserting.{absorbed}
use Rattle.table.specs.Tables.{rows}
use Rattle.table.specs.declared.Table.{Table}
use Rattle.table.specs.declared.Widened.{Widened}

-- how many of the first ends lie before second a
unfoldable pub ends_before : ℕ → List ℕ → ℕ
ends_before a [] = zero
ends_before a (e ∷ es) = elim (ltb e a) [ true ↦ suc (ends_before a es) | false ↦ zero ]

-- the periods that a table passed when a span was added last end before its start
unfoldable pub Passed : Table → List ℕ → Type 0
Passed t es = t.passed ≤ ends_before t.start (take t.count es)

-- the span from a to b took in the rows from i on, of the first n: those before the next, and none after it
pub record TookIn (ss es : List ℕ) (n i a b : ℕ) (w : Widened) : Type 0 where
  pub from : i ≤ w.next
  pub upto : w.next ≤ n
  pub list : absorbed a b (drop i (take n (rows ss es))) ≡ period w.span.start w.span.end ∷ drop w.next (take n (rows ss es))

-- of the first n of a column, v stands for those from i up to j
pub record Spliced (c d : List ℕ) (i j n v : ℕ) : Type 0 where
  pub list : take (i + 1 + (n - j)) d ≡ take i c ++ (v ∷ drop j (take n c))
  pub long : length d ≡ length c
