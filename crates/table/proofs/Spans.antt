-- Spans as two columns: what a row says in each, how many rows they have, a part of them as a table, and one row put in the place of several.
use Prim.Native.Nat.{ℕ, zero, suc, ◌+◌, ◌-◌, ◌≤◌, ◌<◌}
use mathlib.Core.Path.{◌≡◌, refl, sym, ap, ◌∙◌}
use mathlib.Core.List.{List, [], ◌∷◌, map, ◌++◌}
use native.Mathlib.Omega.{arith}
use lib.ListN.{length, take, drop, get_or, set}
use lib.Seq.{paste}
use Rattle.std.proofs.lemmas.List.{length-map, map-append, take-map, drop-map, map-set}
use Rattle.std.proofs.Math.ListN.{get_or-map}
use Rattle.table.specs.declared.Span.{Span}
use Rattle.periods.specs.Periods.{period}
use Rattle.table.specs.Tables.{starts_of, ends_of, rows, table_at, listed}
use Rattle.table.specs.Columns.{Spliced}
use Rattle.table.proofs.Columns.{spliced}
use Rattle.table.proofs.Tables.{rows_length, listed_at}

abbrev pub no_span : Span
no_span = record { start = 0; end = 0 }

module _ (l : List Span) where
  pub starts_long : length (starts_of l) ≡ length l
  starts_long = length-map l (λ (s : Span). s.start)

  pub ends_long : length (ends_of l) ≡ length l
  ends_long = length-map l (λ (s : Span). s.end)

  pub ends_even : length (ends_of l) ≡ length (starts_of l)
  ends_even = ends_long ∙ sym starts_long

  pub start_at : (i : ℕ) → get_or (starts_of l) i 0 ≡ (get_or l i no_span).start
  start_at i = get_or-map (λ (s : Span). s.start) l i no_span

  pub end_at : (i : ℕ) → get_or (ends_of l) i 0 ≡ (get_or l i no_span).end
  end_at i = get_or-map (λ (s : Span). s.end) l i no_span

  pub spans_length : length (rows (starts_of l) (ends_of l)) ≡ length l
  spans_length = rows_length (starts_of l) (ends_of l) (sym ends_even) ∙ starts_long

-- row i is the next of those that are left
pub spans_next : (l : List Span) (i : ℕ) → i < length l
    → drop i (rows (starts_of l) (ends_of l)) ≡ period (get_or l i no_span).start (get_or l i no_span).end ∷ drop (i + 1) (rows (starts_of l) (ends_of l))
unfolding rows
spans_next [] i h = absurd (omega arith)
spans_next (s ∷ l) zero h = refl
spans_next (s ∷ l) (suc i) h =
    let z : suc i + 1 ≡ suc (i + 1) = omega arith in
    rw z (spans_next l i (omega arith))

-- the rows of a part are those of its table
pub spans_part : (first count : ℕ) (l : List Span) → let part = take (first + count - first) (drop first l) in
    rows (starts_of part) (ends_of part) ≡ listed (table_at first count (starts_of l) (ends_of l))
spans_part first count l =
    let many : first + count - first ≡ count = omega arith in
    sym (listed_at first count (starts_of l) (ends_of l) ∙ rw (many, column (λ (s : Span). s.start), column (λ (s : Span). s.end)) refl)
  where
    column : (f : Span → ℕ) → take count (drop first (map f l)) ≡ map f (take count (drop first l))
    column f = ap (take count) (drop-map f first l) ∙ take-map f count (drop first l)

map_paste : (f : Span → ℕ) (c : List Span) (i : ℕ) (s : List Span) (k : ℕ) → map f (paste c i s k) ≡ paste (map f c) i (map f s) k
map_paste f c i s k =
    map-append f (take i c ++ take k s) (drop (i + k) c)
    ∙ rw (map-append f (take i c) (take k s), take-map f i c, take-map f k s, drop-map f (i + k) c) refl

-- a column of spans in which one stands for those from i up to j
pub spliced_spans : (f : Span → ℕ) (c : List Span) {d : List Span} {i j n : ℕ} (v : Span) → d ≡ paste c (i + 1) (drop j c) (n - j) → i ≤ j → j ≤ n → n < length c
    → Spliced (map f c) (map f (set d i v)) i j n (f v)
spliced_spans f c {d} {i} {j} {n} v e h k l =
    rw (map-set f d i v)
    (spliced (f v)
    (ap (map f) e ∙ map_paste f c (i + 1) (drop j c) (n - j) ∙ ap (λ (x : List ℕ). paste (map f c) (i + 1) x (n - j)) (sym (drop-map f j c)))
    h k (omega (arith, length-map c f)))
