-- Laws of kinds of bytes: a byte inside, below or above an interval.
use Prim.Native.Nat.{ℕ, ◌≤◌, ◌<◌}
use mathlib.Core.Path.{◌≡◌, ap}
use mathlib.Core.Bool.{Bool, true, false, ◌&&◌, and-false}
use lib.Dec.{leb}
use borrow.Author.Tests.{le-leb, lt-leb}
use Rattle.ascii.specs.Bytes.{between}
use Rattle.ascii.proofs.Bools.{and_both}

-- a byte inside, below or above an interval
pub inside : (lo hi b : ℕ) → lo ≤ b → b ≤ hi → between lo hi b ≡ true
inside lo hi b p q = and_both (le-leb lo b p) (le-leb b hi q)

pub below : (lo hi b : ℕ) → b < lo → between lo hi b ≡ false
below lo hi b p = ap (λ (t : Bool). t && leb b hi) (lt-leb lo b p)

pub above : (lo hi b : ℕ) → hi < b → between lo hi b ≡ false
above lo hi b p = rw (lt-leb b hi p) (and-false (leb lo b))
