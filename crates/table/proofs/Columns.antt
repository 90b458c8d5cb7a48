-- The steps of adding on the two columns: the search for the first row, the taking in of rows,
-- one element put in the place of several, and what these come to together.
use Prim.Native.Nat.{ℕ, zero, suc, ◌+◌, ◌-◌, ◌≤◌, ◌<◌, min, max}
use mathlib.Core.Path.{◌≡◌, refl, sym, ap, ◌∙◌}
use mathlib.Core.Bool.{Bool, true, false}
use mathlib.Core.List.{List, [], ◌∷◌, ◌++◌, append_assoc}
use native.Mathlib.Nat.{le_refl}
use native.Mathlib.Omega.{arith}
use native.Mathlib.Numerals.{add-one}
use lib.Dec.{ltb}
use lib.ListN.{length, take, drop, get_or, length-take, set, length-drop, length-set}
use lib.Seq.{take-take, length-take-le, set_split, take-add, take-append-add, take_at, drop_at, paste, length-paste}
use borrow.Author.Tests.{ltb-true, lt-ltb, le-ltb, le-leb, lt-leb}
use Rattle.periods.specs.declared.Period.{Period}
use Rattle.periods.specs.Periods.{period}
use Rattle.table.specs.declared.Widened.{Widened}
use Rattle.table.specs.Inserting.{absorbed, inserted}
use Rattle.table.specs.Tables.{rows, listed, Added}
use Rattle.table.specs.Columns.{ends_before, Passed, TookIn, Spliced}
use Rattle.table.proofs.Tables.{take_next, take_end, rows_take, rows_drop, rows_append, rows_next}

-- the ends that lie before a second
ends_fit : (a : ℕ) (es : List ℕ) → ends_before a es ≤ length es
unfolding ends_before
ends_fit a [] = omega arith
ends_fit a (e ∷ es) = go (ltb e a) (ends_fit a es)
  where
    go : (t : Bool) → ends_before a es ≤ length es → elim t [ true ↦ suc (ends_before a es) | false ↦ zero ] ≤ suc (length es)
    go true h = omega arith
    go false h = omega arith

pub ends_second_in : (a n : ℕ) (es : List ℕ) → ends_before a (take n es) ≤ n
ends_second_in a n es = omega (arith, ends_fit a (take n es), length-take n es)

ends_before_holds : (a e : ℕ) (es : List ℕ) → e < a → ends_before a (e ∷ es) ≡ suc (ends_before a es)
unfolding ends_before
ends_before_holds a e es h = rw (lt-ltb e a h, ends_before)

ends_after_holds : (a e : ℕ) (es : List ℕ) → a ≤ e → ends_before a (e ∷ es) ≡ 0
unfolding ends_before
ends_after_holds a e es h = rw (le-ltb e a h, ends_before)

-- the first i of n rows end before second a
pub record Passing (es : List ℕ) (n a i : ℕ) : Type 0 where
  pub upto : i ≤ n
  pub count : i + ends_before a (drop i (take n es)) ≡ ends_before a (take n es)

-- where the first k end before, they and those counted from there on are all
ends_left : (a k : ℕ) (es : List ℕ) → k ≤ ends_before a es → k + ends_before a (drop k es) ≡ ends_before a es
unfolding ends_before
ends_left a zero es h = omega arith
ends_left a (suc k) [] h = absurd (omega arith)
ends_left a (suc k) (e ∷ es) h = go (ltb e a) h (ends_left a k es)
  where
    go : (t : Bool) → suc k ≤ elim t [ true ↦ suc (ends_before a es) | false ↦ zero ]
        → (k ≤ ends_before a es → k + ends_before a (drop k es) ≡ ends_before a es)
        → suc k + ends_before a (drop k es) ≡ elim t [ true ↦ suc (ends_before a es) | false ↦ zero ]
    go true i rest = let r = rest (omega arith) in omega arith
    go false i rest = absurd (omega arith)

-- no fewer end before a later second
ends_later : (a b : ℕ) (es : List ℕ) → a ≤ b → ends_before a es ≤ ends_before b es
unfolding ends_before
ends_later a b [] h = omega arith
ends_later a b (e ∷ es) h = go (ltb e a) refl (ends_later a b es h)
  where
    go : (t : Bool) → ltb e a ≡ t → ends_before a es ≤ ends_before b es
        → elim t [ true ↦ suc (ends_before a es) | false ↦ zero ] ≤ elim (ltb e b) [ true ↦ suc (ends_before b es) | false ↦ zero ]
    go true q rest = rw (lt-ltb e b (omega (arith, ltb-true e a q))) (omega arith)
    go false q rest = omega arith

pub passing_start : (es : List ℕ) (n a : ℕ) → Passing es n a 0
passing_start es n a = record { upto = omega arith; count = omega arith }

-- the walk may begin behind rows that end before second b, where b is no later
pub passing_known : (es : List ℕ) (n a : ℕ) {k b : ℕ} → k ≤ ends_before b (take n es) → b ≤ a → Passing es n a k
passing_known es n a {k} {b} h l =
    let few : k ≤ ends_before a (take n es) = omega (arith, ends_later b a (take n es) l) in
    record { upto = omega (arith, ends_second_in a n es); count = ends_left a k (take n es) few }

module _ {es : List ℕ} {n a i : ℕ} (p : Passing es n a i) where
  pub passing_more : i < n → n ≤ length es → get_or es i 0 < a → Passing es n a (i + 1)
  passing_more h k l = record { upto = omega arith; count = more ∙ p.count }
    where
      more : i + 1 + ends_before a (drop (i + 1) (take n es)) ≡ i + ends_before a (drop i (take n es))
      more = rw (take_next es n i 0 h (omega arith)) (omega (arith, ends_before_holds a (get_or es i 0) (drop (i + 1) (take n es)) l))

  pub passing_found : i < n → n ≤ length es → a ≤ get_or es i 0 → i ≡ ends_before a (take n es)
  passing_found h k l =
      rw (← p.count, take_next es n i 0 h (omega arith)) (omega (arith, ends_after_holds a (get_or es i 0) (drop (i + 1) (take n es)) l))

  pub passing_end : n ≤ i → n ≡ ends_before a (take n es)
  unfolding ends_before
  passing_end h = rw (← p.count, take_end es n i h) (omega (arith, p.upto))

-- adding passes the rows that end before, and takes in from there on
pub passes : (a b : ℕ) (ss es : List ℕ) → length ss ≡ length es
    → inserted a b (rows ss es) ≡ take (ends_before a es) (rows ss es) ++ absorbed a b (drop (ends_before a es) (rows ss es))
unfolding rows ends_before inserted absorbed
passes a b [] [] h = refl
passes a b [] (e ∷ es) h = absurd (omega arith)
passes a b (s ∷ ss) [] h = absurd (omega arith)
passes a b (s ∷ ss) (e ∷ es) h = go (ltb e a) (passes a b ss es (omega arith))
  where
    go : (t : Bool)
        → inserted a b (rows ss es) ≡ take (ends_before a es) (rows ss es) ++ absorbed a b (drop (ends_before a es) (rows ss es))
        → elim t [ true ↦ period s e ∷ inserted a b (rows ss es) | false ↦ absorbed a b (period s e ∷ rows ss es) ]
        ≡ take (elim t [ true ↦ suc (ends_before a es) | false ↦ zero ]) (period s e ∷ rows ss es)
        ++ absorbed a b (drop (elim t [ true ↦ suc (ends_before a es) | false ↦ zero ]) (period s e ∷ rows ss es))
    go true rest = ap (λ (l : List Period). period s e ∷ l) rest
    go false rest = refl

-- the span from a to b has become start to end, with the rows from i up to the next
pub record Taking (ss es : List ℕ) (n i a b next start end : ℕ) : Type 0 where
  pub from : i ≤ next
  pub upto : next ≤ n
  pub list : absorbed start end (drop next (take n (rows ss es))) ≡ absorbed a b (drop i (take n (rows ss es)))

pub taking_start : {ss es : List ℕ} {n i a b : ℕ} → i ≤ n → Taking ss es n i a b i a b
taking_start {i = i} h = record { from = le_refl i; upto = h; list = refl }

module _ {ss es : List ℕ} {n i a b next start end : ℕ} where
  pub taking_more : Taking ss es n i a b next start end → next < n → n ≤ length ss → n ≤ length es → get_or ss next 0 ≤ end
      → {sooner later : ℕ} → sooner ≡ min start (get_or ss next 0) → later ≡ max end (get_or es next 0)
      → Taking ss es n i a b (next + 1) sooner later
  unfolding absorbed
  taking_more t h k l m p q =
      record {
        from = omega (arith, t.from);
        upto = omega arith;
        list =
            rw (p, q) (sym (rw (rows_next ss es n next h (omega arith) (omega arith), le-leb (get_or ss next 0) end m, absorbed)) ∙ t.list);
      }

  pub taking_stop : Taking ss es n i a b next start end → next < n → n ≤ length ss → n ≤ length es → end < get_or ss next 0
      → TookIn ss es n i a b (record { next = next; span = record { start = start; end = end } })
  unfolding absorbed
  taking_stop t h k l m =
      record {
        from = t.from;
        upto = t.upto;
        list =
            sym t.list ∙ rw (rows_next ss es n next h (omega arith) (omega arith), lt-leb (get_or ss next 0) end m, absorbed);
      }

  pub taking_end : Taking ss es n i a b next start end → n ≤ next → TookIn ss es n i a b (record { next = n; span = record { start = start; end = end } })
  unfolding absorbed
  taking_end t h =
      record {
        from = omega (arith, t.from, t.upto);
        upto = le_refl n;
        list = sym t.list ∙ rw (take_end (rows ss es) n next h, take_end (rows ss es) n n (le_refl n));
      }

-- the rows that end before, the widened span, and the rows behind what it took in
pub added_rows : {ss es us vs : List ℕ} {n i a b : ℕ} {w : Widened}
    → n ≤ length ss → n ≤ length es → i ≡ ends_before a (take n es) → TookIn ss es n i a b w
    → Spliced ss us i w.next n w.span.start → Spliced es vs i w.next n w.span.end
    → take (i + 1 + (n - w.next)) (rows us vs) ≡ inserted a b (take n (rows ss es))
unfolding rows
added_rows {ss} {es} {us} {vs} {n} {i} {a} {b} {w} h k e t p q =
    rows_take (i + 1 + (n - w.next)) us vs
    ∙ rw (p.list, q.list)
    (rows_append (take i ss) (take i es) (w.span.start ∷ drop w.next (take n ss)) (w.span.end ∷ drop w.next (take n es)) lengths
    ∙ rw (← rows_take i ss es, ← rows_drop w.next (take n ss) (take n es), ← rows_take n ss es, ← t.list, ← take-take i n (rows ss es) few)
    (rw (rows_take n ss es, e) (sym (passes a b (take n ss) (take n es) (length-take-le n ss h ∙ sym (length-take-le n es k))))))
  where
    few : i ≤ n
    few = rw e (ends_second_in a n es)

    lengths : length (take i ss) ≡ length (take i es)
    lengths = omega (arith, length-take i ss, length-take i es, few)

drop_take : (j n : ℕ) (c : List ℕ) → j ≤ n → n ≤ length c → drop j (take n c) ≡ take (n - j) (drop j c)
drop_take j n c h k =
    ap (λ (x : ℕ). drop j (take x c)) whole
    ∙ ap (λ (l : List ℕ). drop j l) (take-add j (n - j) c)
    ∙ drop_at (take j c) (take (n - j) (drop j c)) j (length-take-le j c (omega arith))
  where
    whole : n ≡ j + (n - j)
    whole = omega arith

-- the elements from j up to n were copied to the place behind i, and v is stored at i
pub spliced : {c d : List ℕ} {i j n : ℕ} (v : ℕ) → d ≡ paste c (i + 1) (drop j c) (n - j) → i ≤ j → j ≤ n → n < length c
    → Spliced c (set d i v) i j n v
spliced {c} {d} {i} {j} {n} v e h k l =
    record {
      list =
          rw (set_split d i v inside, many)
          (take-append-add (take i d) (v ∷ drop (suc i) d) (suc (n - j))
          ∙ rw (drop_take j n c k (omega arith), before, ← add-one i, moved));
      long = length-set d i v ∙ long;
    }
  where
    front : length (take (i + 1) c) ≡ i + 1
    front = length-take-le (i + 1) c (omega arith)

    copied : length (take (n - j) (drop j c)) ≡ n - j
    copied = length-take-le (n - j) (drop j c) (omega (arith, length-drop j c))

    long : length d ≡ length c
    long = rw e (length-paste c (i + 1) (drop j c) (n - j) (omega arith) (omega (arith, length-drop j c)))

    parts : d ≡ take (i + 1) c ++ (take (n - j) (drop j c) ++ drop (i + 1 + (n - j)) c)
    parts = e ∙ append_assoc (take (i + 1) c) (take (n - j) (drop j c)) (drop (i + 1 + (n - j)) c)

    inside : i < length d
    inside = omega (arith, long)

    many : i + 1 + (n - j) ≡ length (take i d) + suc (n - j)
    many = omega (arith, length-take-le i d (omega (arith, long)))

    before : take i d ≡ take i c
    before =
        sym (take-take i (i + 1) d (omega arith))
        ∙ rw (parts, take_at (take (i + 1) c) (take (n - j) (drop j c) ++ drop (i + 1 + (n - j)) c) (i + 1) front)
        (take-take i (i + 1) c (omega arith))

    moved : take (n - j) (drop (i + 1) d) ≡ take (n - j) (drop j c)
    moved =
        rw (parts, drop_at (take (i + 1) c) (take (n - j) (drop j c) ++ drop (i + 1 + (n - j)) c) (i + 1) front)
        (take_at (take (n - j) (drop j c)) (drop (i + 1 + (n - j)) c) (n - j) copied)

-- rows that end before still do where others follow them
ends_kept : (a : ℕ) (es rest : List ℕ) → ends_before a es ≤ ends_before a (take (ends_before a es) es ++ rest)
unfolding ends_before
ends_kept a [] rest = omega arith
ends_kept a (e ∷ es) rest = go (ltb e a) refl (ends_kept a es rest)
  where
    go : (t : Bool) → ltb e a ≡ t → ends_before a es ≤ ends_before a (take (ends_before a es) es ++ rest)
        → elim t [ true ↦ suc (ends_before a es) | false ↦ zero ]
        ≤ ends_before a (take (elim t [ true ↦ suc (ends_before a es) | false ↦ zero ]) (e ∷ es) ++ rest)
    go true q more = rw (ends_before, q) (omega arith)
    go false q more = omega arith

-- the rows before the widened span were passed
pub passed : (a : ℕ) {es vs : List ℕ} {i j n v : ℕ} → i ≡ ends_before a (take n es) → Spliced es vs i j n v
    → Passed (record { count = i + 1 + (n - j); passed = i; start = a }) vs
unfolding Passed
passed a {es} {vs} {i} {j} {n} {v} e p =
    rw (p.list, ← take-take i n es few, e) (ends_kept a (take n es) (v ∷ drop j (take n es)))
  where
    few : i ≤ n
    few = rw e (ends_second_in a n es)

-- the rows that end before, the widened span, and the rows behind it are the list with the span added
pub added : (n : ℕ) {ss es : List ℕ} → n < length ss → length es ≡ length ss → {a b i : ℕ} {w : Widened} {us vs : List ℕ}
    → i ≡ ends_before a (take n es) → TookIn ss es n i a b w
    → Spliced ss us i w.next n w.span.start → Spliced es vs i w.next n w.span.end
    → Added (record { count = n; starts = ss; ends = es }) a b (record { count = i + 1 + (n - w.next); starts = us; ends = vs })
unfolding listed
added n room even e took p q =
    record {
      list = added_rows (omega arith) (omega arith) e took p q;
      count = omega (arith, took.from, took.upto);
      sound = record { few = omega (arith, took.from, took.upto, p.long); even = omega (arith, p.long, q.long) };
    }
