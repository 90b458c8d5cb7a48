-- A rule computed at every number below a bound, and what it then says of each.
use Prim.Native.Nat.{ℕ, zero, suc, ◌<◌, ◌≤◌}
use mathlib.Core.Path.{◌≡◌, subst}
use mathlib.Core.Bool.{Bool, true, ◌&&◌, ◌||◌}
use native.Mathlib.Omega.{arith}
use native.Mathlib.Decide.{dec_lt}
use lib.Dec.{ltb}
use borrow.Author.Tests.{le-ltb}
use Rattle.ascii.proofs.Bools.{and_left, and_right}

-- the test passes at every number below n
abbrev pub all_below : (ℕ → Bool) → ℕ → Bool
all_below f zero = true
all_below f (suc n) = f n && all_below f n

pub below : (f : ℕ → Bool) (n : ℕ) → all_below f n ≡ true → (k : ℕ) → k < n → f k ≡ true
below f zero e k h = absurd (omega arith)
below f (suc n) e k h = go (dec_lt k n) (λ p. below f n (and_right (f n) (all_below f n) e) k p)
  where
    go : Dec (k < n) → (k < n → f k ≡ true) → f k ≡ true
    go (yes p) before = before p
    go (no q) before = let z : n ≡ k = omega arith in subst (λ (m : ℕ). f m ≡ true) z (and_left (f n) (all_below f n) e)

-- the test passes from k on, where it passes with the numbers below k let through
pub from : (f : ℕ → Bool) (k n : ℕ) → k ≤ n → (ltb n k || f n) ≡ true → f n ≡ true
from f k n h e = rw (le-ltb n k h) at e

pub between : (f : ℕ → Bool) (k n : ℕ) → all_below (λ i. ltb i k || f i) n ≡ true → (i : ℕ) → k ≤ i → i < n → f i ≡ true
between f k n e i h l = from f k i h (below (λ i. ltb i k || f i) n e i l)
