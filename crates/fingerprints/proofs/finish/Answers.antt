-- `fingerprints::finish` meets its contract: what is left to add is what is left of the bytes, and three more bytes keep the sums small.
use Rattle.fingerprints.proofs.Fingerprints.{ending_start, ending_next, ending_end}
use native.Mathlib.Omega.{arith}
use Rattle.fingerprints.proofs.finish.Goals as goal

pub loop-i-init : goal.loop-i-init
loop-i-init c = ending_start c.requires

pub loop-i-preserved : goal.loop-i-preserved
loop-i-preserved c = ending_next c.loop-i.invariant (omega arith) c.from-one.ensures (omega arith)

pub returns : goal.returns
returns c = ending_end c.loop-i.invariant (omega arith)
