-- Runs of seconds: they rise, they cover what they were made of, and nothing else that rises does.
use Prim.Native.Nat.{ℕ, zero, suc, ◌+◌, ◌≤◌, ◌<◌}
use mathlib.Core.Path.{◌≡◌, refl, sym, ap, ◌∙◌}
use mathlib.Core.Bool.{Bool, true, false, ◌&&◌, ◌||◌, and-true, and-false, or_assoc, and-or_distrib_right}
use mathlib.Core.List.{List, [], ◌∷◌, Memᴰ}
use mathlib.Core.Logic.{⊎_elim}
use native.Mathlib.Nat.{le_trans, le_refl}
use native.Mathlib.Omega.{arith}
use lib.Dec.{eqb}
use borrow.Author.Tests.{eqb-true, eqb-false}
use Rattle.periods.specs.declared.Period.{Period}
use Rattle.ascii.proofs.Bools.{clash}
use Rattle.periods.specs.Periods.{period, second_in, covers}
use Rattle.table.specs.Runs.{lead, lead_if, runs, Rising, Lies}
use Rattle.table.specs.Runs.Rising.{none, then}
use Rattle.periods.proofs.Periods.{below_or_not, second_in_true, second_in_below, second_in_above, second_in_none, under, touching, only}

-- a rising list starts no earlier than any lower bound
pub rising_lower : {lo lo' hi : ℕ} {ps : List Period} → lo' ≤ lo → Rising lo ps hi → Rising lo' ps hi
rising_lower h none = none
rising_lower h (then a b c r) = then (le_trans h a) b c r

-- each period of a rising list lies between its bounds and holds a second
pub rising_lies : {lo hi : ℕ} {p : Period} {ps : List Period} → Rising lo ps hi → Memᴰ p ps → Lies lo hi p
rising_lies (then a b c r) (Memᴰ.head e) = record { from = rw e a; some = rw e b; to = rw e c }
rising_lies (then a b c r) (Memᴰ.tail m) = rising_lies (rising_lower (omega arith) r) m
rising_lies {lo = lo} {hi = hi} {p = p} none x5 = elim x5 [ ]

pub covers_below : {lo hi : ℕ} {ps : List Period} → Rising lo ps hi → (x : ℕ) → x < lo → covers ps x ≡ false
unfolding covers
covers_below none x h = refl
covers_below (then {p = p} a b c r) x h = rw (second_in_below p.start p.end x (omega arith)) (covers_below r x (omega arith))

pub covers_above : {lo hi : ℕ} {ps : List Period} → Rising lo ps hi → (x : ℕ) → hi ≤ x → covers ps x ≡ false
unfolding covers
covers_above none x h = refl
covers_above (then {p = p} a b c r) x h = rw (second_in_above p.start p.end x (omega arith)) (covers_above r x h)

period_same : (p q : Period) → p.start ≡ q.start → p.end ≡ q.end → p ≡ q
period_same p q a b = ap (λ (n : ℕ). period n p.end) a ∙ ap (λ (n : ℕ). period q.start n) b

-- the first period covers its start, and its end lies in a gap
covers_start : {lo hi : ℕ} {p : Period} {ps : List Period} → Rising lo (p ∷ ps) hi → covers (p ∷ ps) p.start ≡ true
unfolding covers
covers_start (then {p = p} a b c r) = rw (second_in_true p.start p.end p.start (omega arith) b)

covers_end : {lo hi : ℕ} {p : Period} {ps : List Period} → Rising lo (p ∷ ps) hi → covers (p ∷ ps) p.end ≡ false
unfolding covers
covers_end (then {p = p} a b c r) = rw (second_in_above p.start p.end p.end (omega arith)) (covers_below r p.end (omega arith))

-- past the first period only the rest covers
covers_rest : (p : Period) (ps : List Period) (x : ℕ) → p.end ≤ x → covers (p ∷ ps) x ≡ covers ps x
unfolding covers
covers_rest p ps x h = rw (second_in_above p.start p.end x h)

covers_first : (p : Period) (ps : List Period) (x : ℕ) → p.start ≤ x → x < p.end → covers (p ∷ ps) x ≡ true
unfolding covers
covers_first p ps x h k = rw (second_in_true p.start p.end x h k)

from_start : {hi : ℕ} (p : Period) {ps : List Period} → p.start < p.end → p.end ≤ hi → Rising (p.end + 1) ps hi → Rising p.start (p ∷ ps) hi
from_start p b c r = then (le_refl p.start) b c r

abbrev Same : List Period → List Period → Type 0
Same ps qs = (x : ℕ) → covers ps x ≡ covers qs x

no_first : {lo hi : ℕ} {p : Period} {ps : List Period} {A : Type 0} → Rising lo (p ∷ ps) hi → Same (p ∷ ps) [] → A
unfolding covers
no_first {p = p} r same = clash (covers_start r) (same p.start)

module _ (p q : Period) (ps qs : List Period) (same : Same (p ∷ ps) (q ∷ qs)) where
  starts_first : {lo hi hi' : ℕ} → Rising lo (p ∷ ps) hi → Rising q.start (q ∷ qs) hi' → q.start ≤ p.start
  starts_first r t =
      ⊎_elim
      (λ (h : p.start < q.start). clash (sym (same p.start) ∙ covers_start r) (covers_below t p.start h))
      (λ h. h)
      (below_or_not p.start q.start)

  ends_first : {lo hi : ℕ} → Rising lo (p ∷ ps) hi → q.start ≤ p.end → q.end ≤ p.end
  ends_first r s =
      ⊎_elim
      (λ (h : p.end < q.end). clash (covers_first q qs p.end s h) (sym (same p.end) ∙ covers_end r))
      (λ h. h)
      (below_or_not p.end q.end)

  rests_same : {hi hi' : ℕ} → Rising (p.end + 1) ps hi → Rising (q.end + 1) qs hi' → p.end ≡ q.end → Same ps qs
  rests_same r t e x =
      ⊎_elim
      (λ (h : x < p.end). covers_below r x (omega arith) ∙ sym (covers_below t x (omega arith)))
      (λ (h : p.end ≤ x). sym (covers_rest p ps x h) ∙ same x ∙ covers_rest q qs x (omega arith))
      (below_or_not x p.end)

-- the first periods of two such lists are one period
firsts_same : {hi hi' : ℕ} (p q : Period) (ps qs : List Period)
    → Rising p.start (p ∷ ps) hi → Rising q.start (q ∷ qs) hi' → p.start < p.end → q.start < q.end → Same (p ∷ ps) (q ∷ qs) → p ≡ q
firsts_same p q ps qs r t b b' same =
    let back : Same (q ∷ qs) (p ∷ ps) = λ x. sym (same x) in
    let later : q.start ≤ p.start = starts_first p q ps qs same r t in
    let sooner : p.start ≤ q.start = starts_first q p qs ps back t r in
    let longer : q.end ≤ p.end = ends_first p q ps qs same r (omega arith) in
    let shorter : p.end ≤ q.end = ends_first q p qs ps back t (omega arith) in
    period_same p q (omega arith) (omega arith)

both_same : {p q : Period} {ps qs : List Period} → p ≡ q → ps ≡ qs → p ∷ ps ≡ q ∷ qs
both_same {p} {q} {ps} {qs} e f = ap (λ (x : Period). x ∷ ps) e ∙ ap (λ (l : List Period). q ∷ l) f

-- canonical: rising lists that cover the same seconds are one list
pub rising_same : {lo hi lo' hi' : ℕ} {ps qs : List Period}
    → Rising lo ps hi → Rising lo' qs hi' → ((x : ℕ) → covers ps x ≡ covers qs x) → ps ≡ qs
rising_same none none same = refl
rising_same none (then {p = q} a b c t) same = no_first (then {p = q} a b c t) (λ x. sym (same x))
rising_same (then {p = p} a b c r) none same = no_first (then {p = p} a b c r) same
rising_same (then {p = p} {ps = ps} a b c r) (then {p = q} {ps = qs} a' b' c' t) same =
    let first : p ≡ q = firsts_same p q ps qs (from_start p b c r) (from_start q b' c' t) b b' same in
    both_same first (rising_same r t (rests_same p q ps qs same r t (ap (λ (x : Period). x.end) first)))

-- a second put before a rising list that begins later
pub lead_rising : (s : ℕ) {hi : ℕ} {ps : List Period} → s < hi → Rising (s + 1) ps hi → Rising s (lead s ps) hi
unfolding lead
lead_rising s h none = from_start (period s (s + 1)) (omega arith) (omega arith) none
lead_rising s {hi} h (then {p = p} {ps = ps} a b c r) = go (eqb p.start (s + 1)) refl
  where
    go : (t : Bool) → eqb p.start (s + 1) ≡ t → Rising s (elim t [ true ↦ period s p.end ∷ ps | false ↦ period s (s + 1) ∷ p ∷ ps ]) hi
    go true e = from_start (period s p.end) (omega arith) c r
    go false e =
        let apart : s + 1 + 1 ≤ p.start = omega (arith, eqb-false p.start (s + 1) e) in
        from_start (period s (s + 1)) (omega arith) (omega arith) (then apart b c r)

pub lead_covers : (s x : ℕ) {hi : ℕ} {ps : List Period} → Rising (s + 1) ps hi → covers (lead s ps) x ≡ (second_in s (s + 1) x || covers ps x)
unfolding lead covers
lead_covers s x none = refl
lead_covers s x (then {p = p} {ps = ps} a b c r) = go (eqb p.start (s + 1)) refl
  where
    go : (t : Bool) → eqb p.start (s + 1) ≡ t
        → covers (elim t [ true ↦ period s p.end ∷ ps | false ↦ period s (s + 1) ∷ p ∷ ps ]) x ≡ (second_in s (s + 1) x || (second_in p.start p.end x || covers ps x))
    go true e =
        rw (eqb-true p.start (s + 1) e, touching s (s + 1) p.end x (omega arith) (omega arith))
        (or_assoc (second_in s (s + 1) x) (second_in (s + 1) p.end x) (covers ps x))
    go false e = refl

lead_if_rising : (t : Bool) (s : ℕ) {hi : ℕ} {ps : List Period} → s < hi → Rising (s + 1) ps hi → Rising s (lead_if t s ps) hi
unfolding lead_if
lead_if_rising true s h r = lead_rising s h r
lead_if_rising false s h r = rising_lower (omega arith) r

lead_if_covers : (t : Bool) (s x : ℕ) {hi : ℕ} {ps : List Period} → Rising (s + 1) ps hi
    → covers (lead_if t s ps) x ≡ ((second_in s (s + 1) x && t) || covers ps x)
unfolding lead_if
lead_if_covers true s x {ps = ps} r = lead_covers s x r ∙ ap (λ (t : Bool). t || covers ps x) (sym (and-true (second_in s (s + 1) x)))
lead_if_covers false s x {ps = ps} r = ap (λ (t : Bool). t || covers ps x) (sym (and-false (second_in s (s + 1) x)))

next_bound : (s n : ℕ) → s + 1 + n ≡ s + suc n
next_bound s n = omega arith

-- the runs rise
pub runs_rising : (f : ℕ → Bool) (s n : ℕ) → Rising s (runs f s n) (s + n)
unfolding runs
runs_rising f s zero = none
runs_rising f s (suc n) = rw (← next_bound s n) (lead_if_rising (f s) s (omega arith) (runs_rising f (s + 1) n))

-- the runs cover what they were made of, and nothing outside
pub runs_cover : (f : ℕ → Bool) (s n x : ℕ) → covers (runs f s n) x ≡ (second_in s (s + n) x && f x)
unfolding runs covers
runs_cover f s zero x = sym (ap (λ (t : Bool). t && f x) (second_in_none s (s + 0) x (omega arith)))
runs_cover f s (suc n) x =
    lead_if_covers (f s) s x (runs_rising f (s + 1) n)
    ∙ rw (runs_cover f (s + 1) n x, only f s x, next_bound s n)
    (sym (and-or_distrib_right (second_in s (s + 1) x) (second_in (s + 1) (s + suc n) x) (f x))
    ∙ ap (λ (t : Bool). t && f x) (sym (touching s (s + 1) (s + suc n) x (omega arith) (omega arith))))

-- inside the range the runs cover a second where it is in the set
pub runs_here : (f : ℕ → Bool) (s n x : ℕ) → s ≤ x → x < s + n → covers (runs f s n) x ≡ f x
runs_here f s n x h k = runs_cover f s n x ∙ ap (λ (t : Bool). t && f x) (second_in_true s (s + n) x h k)

-- a rising list is the runs of what it covers
pub runs_only : (f : ℕ → Bool) (s n : ℕ) {ps : List Period}
    → Rising s ps (s + n) → ((x : ℕ) → s ≤ x → x < s + n → covers ps x ≡ f x) → ps ≡ runs f s n
runs_only f s n r same =
    rising_same r (runs_rising f s n) (λ x. under s (s + n) x (same x) (covers_below r x) (covers_above r x) ∙ sym (runs_cover f s n x))

-- equal sets have equal runs, and only they
pub runs_same : (f g : ℕ → Bool) (s n : ℕ) → ((x : ℕ) → s ≤ x → x < s + n → f x ≡ g x) → runs f s n ≡ runs g s n
runs_same f g s n same = runs_only g s n (runs_rising f s n) (λ x h k. runs_here f s n x h k ∙ same x h k)

pub runs_none : (s n : ℕ) → runs (λ x. false) s n ≡ []
unfolding runs lead_if
runs_none s zero = refl
runs_none s (suc n) = runs_none (s + 1) n
