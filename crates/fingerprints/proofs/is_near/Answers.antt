-- `fingerprints::is_near` meets its contract: where no test so far has held, x stands at none of the places tested.
use Rattle.fingerprints.proofs.Columns.{tested_start, tested_next, tested_end}
use native.Mathlib.Omega.{arith}
use Rattle.fingerprints.proofs.is_near.Goals as goal

pub loop-k-init : goal.loop-k-init
loop-k-init c = tested_start _ _ _

pub loop-k-preserved : goal.loop-k-preserved
loop-k-preserved c = tested_next c.loop-k.invariant (omega arith)

pub returns : goal.returns
returns c = tested_end c.loop-k.invariant c.loop-k-test.false
