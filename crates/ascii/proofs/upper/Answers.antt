-- `ascii::upper` meets its contract: the library's two tests are the interval a to z.
use Prim.Native.Nat.{ℕ, ◌-◌}
use mathlib.Core.Path.{◌≡◌, refl, ◌∙◌}
use mathlib.Core.Bool.{Bool, true, false, cond}
use lib.Dec.{ltb}
use borrow.Author.Tests.{ltb-true, ltb-false}
use Rattle.std.specs.Char.{to_ascii_uppercase}
use Rattle.ascii.proofs.Bytes.{inside, below, above}
use Rattle.ascii.specs.Bytes.{between, upper}
use native.Mathlib.Omega.{arith}
use Rattle.ascii.proofs.upper.Goals as goal

library_upper : (b : ℕ) → to_ascii_uppercase b ≡ upper b
unfolding upper
library_upper b = go (ltb b 97) refl (ltb b 123) refl
  where
    go : (t : Bool) → ltb b 97 ≡ t → (u : Bool) → ltb b 123 ≡ u → cond t b (cond u (b - 32) b) ≡ cond (between 97 122 b) (b - 32) b
    go true p u q = rw (below 97 122 b (ltb-true b 97 p))
    go false p true q = rw (inside 97 122 b (ltb-false b 97 p) (omega (arith, ltb-true b 123 q)))
    go false p false q = rw (above 97 122 b (omega (arith, ltb-false b 123 q)))

pub returns : goal.returns
returns c = c.to_ascii_uppercase.ensures.value ∙ library_upper _
