-- Adding a span: the list stays rising, covers the span besides, and grows by one period at most.
use Prim.Native.Nat.{ℕ, suc, ◌+◌, ◌≤◌, ◌<◌, min, max}
use mathlib.Core.Path.{◌≡◌, refl, sym, ap, ◌∙◌}
use mathlib.Core.Bool.{Bool, true, false, ◌||◌, or_assoc, or-false}
use mathlib.Core.List.{List, [], ◌∷◌, Memᴰ}
use native.Mathlib.Nat.{le_refl, le_trans}
use native.Mathlib.Omega.{arith}
use lib.Dec.{leb, ltb}
use lib.ListN.{length}
use borrow.Author.Tests.{ltb-true, ltb-false, leb-true, leb-false}
use Rattle.periods.specs.declared.Period.{Period}
use Rattle.periods.specs.Periods.{period, second_in, covers}
use Rattle.table.specs.Runs.{runs, Rising, Lies}
use Rattle.table.specs.Runs.Rising.{none, then}
use Rattle.table.specs.Inserting.{absorbed, inserted, inserted_all}
use Rattle.periods.proofs.Periods.{joined}
use Rattle.table.proofs.Runs.{runs_rising, runs_here, runs_only, runs_same, runs_none}

-- one step of taking in: the first period becomes one with the span, or stays behind it
abbrev Stepped : Bool → ℕ → ℕ → Period → List Period → List Period
Stepped t a b p ps = elim t [ true ↦ absorbed (min a p.start) (max b p.end) ps | false ↦ period a b ∷ p ∷ ps ]

absorbed_rising : (a b : ℕ) {lo lo' hi : ℕ} {ps : List Period} → lo ≤ lo' → lo ≤ a → a < b → b ≤ hi → Rising lo' ps hi → Rising lo (absorbed a b ps) hi
unfolding absorbed
absorbed_rising a b g h k l none = then h k l none
absorbed_rising a b {lo} {hi = hi} g h k l (then {p = p} {ps = ps} x y z r) =
    go
    (leb p.start b)
    refl
    (absorbed_rising
    (min a p.start)
    (max b p.end)
    (omega arith)
    (omega (arith, le_trans g x))
    (omega (arith))
    (omega arith)
    r)
  where
    go : (t : Bool) → leb p.start b ≡ t → Rising lo (absorbed (min a p.start) (max b p.end) ps) hi → Rising lo (Stepped t a b p ps) hi
    go true e rest = rest
    go false e rest =
        let apart : b + 1 ≤ p.start = omega (arith, leb-false p.start b e) in
        then h k l (then apart y z r)

-- one step of adding: the first period ends before, or the span takes in from it on
abbrev Placed : Bool → ℕ → ℕ → Period → List Period → List Period
Placed t a b p ps = elim t [ true ↦ p ∷ inserted a b ps | false ↦ absorbed a b (p ∷ ps) ]

-- the list stays rising
pub inserted_rising : (a b : ℕ) {lo hi : ℕ} {ps : List Period} → lo ≤ a → a < b → b ≤ hi → Rising lo ps hi → Rising lo (inserted a b ps) hi
unfolding inserted
inserted_rising a b h k l none = then h k l none
inserted_rising a b {lo} {hi} h k l (then {p = p} {ps = ps} x y z r) =
    go (ltb p.end a) refl (λ i. inserted_rising a b i k l r)
  where
    go : (t : Bool) → ltb p.end a ≡ t → (p.end + 1 ≤ a → Rising (p.end + 1) (inserted a b ps) hi)
        → Rising lo (Placed t a b p ps) hi
    go true e rest = then x y z (rest (omega (arith, ltb-true p.end a e)))
    go false e rest = absorbed_rising a b (le_refl lo) h k l (then x y z r)

-- the first period, if there is one, ends no sooner than a
abbrev FirstMeets : ℕ → List Period → Type 0
FirstMeets a [] = Unit {0}
FirstMeets a (p ∷ ps) = a ≤ p.end

meets : {a lo hi : ℕ} {ps : List Period} → a ≤ lo → Rising lo ps hi → FirstMeets a ps
meets h none = tt
meets h (then {p = p} x y z r) = omega arith

absorbed_covers : (a b x : ℕ) {lo hi : ℕ} {ps : List Period} → Rising lo ps hi → FirstMeets a ps
    → covers (absorbed a b ps) x ≡ (second_in a b x || covers ps x)
unfolding absorbed covers
absorbed_covers a b x none m = refl
absorbed_covers a b x (then {p = p} {ps = ps} i j k r) m =
    go (leb p.start b) refl (absorbed_covers (min a p.start) (max b p.end) x r (meets (omega (arith)) r))
  where
    go : (t : Bool) → leb p.start b ≡ t
        → covers (absorbed (min a p.start) (max b p.end) ps) x ≡ (second_in (min a p.start) (max b p.end) x || covers ps x)
        → covers (Stepped t a b p ps) x ≡ (second_in a b x || (second_in p.start p.end x || covers ps x))
    go true e rest =
        rest
        ∙ ap (λ (t : Bool). t || covers ps x) (joined a b p.start p.end x (leb-true p.start b e) m)
        ∙ or_assoc (second_in a b x) (second_in p.start p.end x) (covers ps x)
    go false e rest = refl

-- of three, the first two in the other order
swapped : (p q r : Bool) → (p || (q || r)) ≡ (q || (p || r))
swapped true true r = refl
swapped true false r = refl
swapped false true r = refl
swapped false false r = refl

-- it covers the span besides
pub inserted_covers : (a b x : ℕ) {lo hi : ℕ} {ps : List Period} → Rising lo ps hi → covers (inserted a b ps) x ≡ (second_in a b x || covers ps x)
unfolding inserted covers
inserted_covers a b x none = refl
inserted_covers a b x (then {p = p} {ps = ps} i j k r) = go (ltb p.end a) refl (inserted_covers a b x r)
  where
    go : (t : Bool) → ltb p.end a ≡ t → covers (inserted a b ps) x ≡ (second_in a b x || covers ps x)
        → covers (Placed t a b p ps) x ≡ (second_in a b x || (second_in p.start p.end x || covers ps x))
    go true e rest = rw rest (swapped (second_in p.start p.end x) (second_in a b x) (covers ps x))
    go false e rest = absorbed_covers a b x (then {p = p} i j k r) (ltb-false p.end a e)

-- adding a span to runs gives the runs of one set more
pub inserted_runs : (f : ℕ → Bool) (s n a b : ℕ) → s ≤ a → a < b → b ≤ s + n
    → inserted a b (runs f s n) ≡ runs (λ x. second_in a b x || f x) s n
inserted_runs f s n a b h k l =
    runs_only
    (λ x. second_in a b x || f x)
    s
    n
    (inserted_rising a b h k l (runs_rising f s n))
    (λ x i j. inserted_covers a b x (runs_rising f s n) ∙ ap (λ (t : Bool). second_in a b x || t) (runs_here f s n x i j))

absorbed_length : (a b : ℕ) (ps : List Period) → length (absorbed a b ps) ≤ suc (length ps)
unfolding absorbed
absorbed_length a b [] = omega arith
absorbed_length a b (p ∷ ps) = go (leb p.start b) (absorbed_length (min a p.start) (max b p.end) ps)
  where
    go : (t : Bool) → length (absorbed (min a p.start) (max b p.end) ps) ≤ suc (length ps) → length (Stepped t a b p ps) ≤ suc (suc (length ps))
    go true rest = omega arith
    go false rest = omega arith

-- it grows by one period at most
pub inserted_length : (a b : ℕ) (ps : List Period) → length (inserted a b ps) ≤ suc (length ps)
unfolding inserted
inserted_length a b [] = omega arith
inserted_length a b (p ∷ ps) = go (ltb p.end a) (inserted_length a b ps)
  where
    go : (t : Bool) → length (inserted a b ps) ≤ suc (length ps)
        → length (Placed t a b p ps) ≤ suc (suc (length ps))
    go true rest = omega arith
    go false rest = absorbed_length a b (p ∷ ps)

-- periods clipped to a range, added one after another, in any order
pub inserted_all_runs : (f : ℕ → Bool) (s n : ℕ) (ps : List Period) → ((p : Period) → Memᴰ p ps → Lies s (s + n) p)
    → inserted_all (runs f s n) ps ≡ runs (λ x. covers ps x || f x) s n
unfolding inserted_all covers
inserted_all_runs f s n [] lies = refl
inserted_all_runs f s n (p ∷ ps) lies =
    let here : Lies s (s + n) p = lies p (Memᴰ.head refl) in
    ap (λ (qs : List Period). inserted_all qs ps) (inserted_runs f s n p.start p.end here.from here.some here.to)
    ∙ inserted_all_runs (λ x. second_in p.start p.end x || f x) s n ps (λ q m. lies q (Memᴰ.tail m))
    ∙ runs_same
    (λ x. covers ps x || (second_in p.start p.end x || f x))
    (λ x. (second_in p.start p.end x || covers ps x) || f x)
    s
    n
    (λ x i j. swapped (covers ps x) (second_in p.start p.end x) (f x) ∙ sym (or_assoc (second_in p.start p.end x) (covers ps x) (f x)))

-- the runs of what they cover are those periods added one after another to none
pub inserted_all_all : (s n : ℕ) (ps : List Period) → ((p : Period) → Memᴰ p ps → Lies s (s + n) p) → inserted_all [] ps ≡ runs (covers ps) s n
inserted_all_all s n ps lies =
    ap (λ (qs : List Period). inserted_all qs ps) (sym (runs_none s n))
    ∙ inserted_all_runs (λ x. false) s n ps lies
    ∙ runs_same (λ x. covers ps x || false) (covers ps) s n (λ x i j. or-false (covers ps x))

pub inserted_all_length : (qs ps : List Period) → length (inserted_all qs ps) ≤ length qs + length ps
unfolding inserted_all
inserted_all_length qs [] = omega arith
inserted_all_length qs (p ∷ ps) = omega (arith, inserted_all_length (inserted p.start p.end qs) ps, inserted_length p.start p.end qs)

-- the runs are no more than the periods that they were made of
pub fewest : (s n : ℕ) (ps : List Period) → ((p : Period) → Memᴰ p ps → Lies s (s + n) p) → length (runs (covers ps) s n) ≤ length ps
fewest s n ps lies = rw (← inserted_all_all s n ps lies) (omega (arith, inserted_all_length [] ps))
