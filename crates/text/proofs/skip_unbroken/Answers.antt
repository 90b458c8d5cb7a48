-- `text::skip_unbroken` meets its contract: no CR LF begins in the places that each turn passes, nor before the count that ends it.
use Rattle.text.proofs.Unfolding.{nowhere_start, nowhere_join, nowhere_until}
use native.Mathlib.Omega.{arith}
use Rattle.text.proofs.skip_unbroken.Goals as goal

pub loop-i-init : goal.loop-i-init
loop-i-init c = nowhere_start _ _ _ c.requires

pub returns-then-break_at : goal.returns-then-break_at
returns-then-break_at c = c.loop-i.invariant

pub returns-then-k-lt64 : goal.returns-then-k-lt64
returns-then-k-lt64 c = rw c.from.ensures (nowhere_join c.loop-i.invariant c.break_in-k.ensures)

pub loop-i-preserved : goal.loop-i-preserved
loop-i-preserved c = nowhere_join c.loop-i.invariant (nowhere_until _ c.break_in-k.ensures (omega arith) (omega arith))

pub returns : goal.returns
returns c = c.loop-i.invariant
