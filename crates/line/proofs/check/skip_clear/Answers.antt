-- `line::check::skip_clear` meets its contract: no control stands in the places that each turn passes, nor before the count that ends it.
use Rattle.text.proofs.Unfolding.{nowhere_start, nowhere_join, nowhere_until}
use native.Mathlib.Omega.{arith}
use Rattle.line.proofs.check.skip_clear.Goals as goal

pub loop-i-init : goal.loop-i-init
loop-i-init c = nowhere_start _ _ _ c.requires

pub returns-then-k-lt32 : goal.returns-then-k-lt32
returns-then-k-lt32 c = nowhere_join c.loop-i.invariant c.control_in-k.ensures

pub loop-i-preserved : goal.loop-i-preserved
loop-i-preserved c = nowhere_join c.loop-i.invariant (nowhere_until _ c.control_in-k.ensures (omega arith) (omega arith))

pub returns : goal.returns
returns c = c.loop-i.invariant
