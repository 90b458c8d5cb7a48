-- A span of seconds: which it holds, and how two that overlap or touch become one.
use Prim.Native.Nat.{ℕ, ◌+◌, ◌≤◌, ◌<◌, min, max}
use mathlib.Core.Path.{◌≡◌, refl, sym, ap, ◌∙◌}
use mathlib.Core.Bool.{Bool, true, false, ◌&&◌, ◌||◌, and-false, or-false}
use mathlib.Core.Logic.{◌⊎◌, inl, inr, ⊎_elim}
use native.Mathlib.Omega.{arith}
use lib.Dec.{leb, ltb}
use borrow.Author.Tests.{ltb-true, ltb-false, leb-true, lt-ltb, le-ltb, le-leb, lt-leb}
use Rattle.ascii.proofs.Bools.{and_left, and_right, and_both}
use Rattle.periods.specs.Periods.{second_in}

-- a number is below another or not
pub below_or_not : (x y : ℕ) → (x < y) ⊎ (y ≤ x)
below_or_not x y = go (ltb x y) refl
  where
    go : (t : Bool) → ltb x y ≡ t → (x < y) ⊎ (y ≤ x)
    go true e = inl (ltb-true x y e)
    go false e = inr (ltb-false x y e)

pub second_in_true : (a b x : ℕ) → a ≤ x → x < b → second_in a b x ≡ true
unfolding second_in
second_in_true a b x h k = and_both (le-leb a x h) (lt-ltb x b k)

pub second_in_below : (a b x : ℕ) → x < a → second_in a b x ≡ false
unfolding second_in
second_in_below a b x h = ap (λ (t : Bool). t && ltb x b) (lt-leb a x h)

pub second_in_above : (a b x : ℕ) → b ≤ x → second_in a b x ≡ false
unfolding second_in
second_in_above a b x h = rw (le-ltb x b h) (and-false (leb a x))

pub second_in_ends : (a b x : ℕ) → second_in a b x ≡ true → (a ≤ x) × (x < b)
unfolding second_in
second_in_ends a b x e = (leb-true a x (and_left (leb a x) (ltb x b) e), ltb-true x b (and_right (leb a x) (ltb x b) e))

-- an empty span
pub second_in_none : (a b x : ℕ) → b ≤ a → second_in a b x ≡ false
second_in_none a b x h = ⊎_elim (λ (i : x < a). second_in_below a b x i) (λ (i : a ≤ x). second_in_above a b x (omega arith)) (below_or_not x a)

-- a second is in a span or not: then a test under it is that test, or fails
pub under : (a b x : ℕ) {t u : Bool} → (a ≤ x → x < b → t ≡ u) → (x < a → t ≡ false) → (b ≤ x → t ≡ false) → t ≡ (second_in a b x && u)
under a b x {t} {u} here below past =
    ⊎_elim
    (λ (i : x < a). below i ∙ sym (ap (λ (w : Bool). w && u) (second_in_below a b x i)))
    (λ (i : a ≤ x). ⊎_elim
    (λ (j : x < b). here i j ∙ sym (ap (λ (w : Bool). w && u) (second_in_true a b x i j)))
    (λ (j : b ≤ x). past j ∙ sym (ap (λ (w : Bool). w && u) (second_in_above a b x j)))
    (below_or_not x b))
    (below_or_not x a)

-- two spans, one from where the other ends
pub touching : (a b e x : ℕ) → a ≤ b → b ≤ e → second_in a e x ≡ (second_in a b x || second_in b e x)
unfolding second_in
touching a b e x h k =
    ⊎_elim
    (λ (i : x < b). rw (lt-ltb x b i, lt-ltb x e (omega arith), lt-leb b x i) (sym (or-false (leb a x && true))))
    (λ (i : b ≤ x). rw (le-ltb x b i, le-leb b x i, le-leb a x (omega arith)))
    (below_or_not x b)

-- of second s alone
pub only : (f : ℕ → Bool) (s x : ℕ) → (second_in s (s + 1) x && f s) ≡ (second_in s (s + 1) x && f x)
only f s x = go (second_in s (s + 1) x) refl
  where
    go : (t : Bool) → second_in s (s + 1) x ≡ t → (t && f s) ≡ (t && f x)
    go true e = ap f (omega (arith, second_in_ends s (s + 1) x e))
    go false e = refl

-- two spans that meet or touch are one from the min start to the max end
module _ (a b s e x : ℕ) (h : s ≤ b) (k : a ≤ e) where
  both_hold : min a s ≤ x → x < max b e → (second_in a b x || second_in s e x) ≡ true → second_in (min a s) (max b e) x ≡ (second_in a b x || second_in s e x)
  both_hold p q r = second_in_true (min a s) (max b e) x p q ∙ sym r

  below_first : x < a → second_in (min a s) (max b e) x ≡ (second_in a b x || second_in s e x)
  below_first i =
      ⊎_elim
      (λ (j : x < s). second_in_below _ (max b e) x (omega arith) ∙ sym (rw (second_in_below a b x i) (second_in_below s e x j)))
      (λ (j : s ≤ x). both_hold
      (omega arith)
      (omega arith)
      (rw (second_in_below a b x i) (second_in_true s e x j (omega arith))))
      (below_or_not x s)

  from_first : a ≤ x → second_in (min a s) (max b e) x ≡ (second_in a b x || second_in s e x)
  from_first i =
      ⊎_elim
      (λ (j : x < b). both_hold (omega arith) (omega arith) (rw (second_in_true a b x i j)))
      (λ (j : b ≤ x). past j)
      (below_or_not x b)
    where
      past : b ≤ x → second_in (min a s) (max b e) x ≡ (second_in a b x || second_in s e x)
      past j =
          ⊎_elim
          (λ (l : x < e). both_hold
          (omega arith)
          (omega arith)
          (rw (second_in_above a b x j) (second_in_true s e x (omega arith) l)))
          (λ (l : e ≤ x). second_in_above (min a s) _ x (omega arith) ∙ sym (rw (second_in_above a b x j) (second_in_above s e x l)))
          (below_or_not x e)

  pub joined : second_in (min a s) (max b e) x ≡ (second_in a b x || second_in s e x)
  joined = ⊎_elim below_first from_first (below_or_not x a)
