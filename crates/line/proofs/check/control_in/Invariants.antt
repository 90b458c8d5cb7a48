use Rattle.line.specs.WellFormed.{control_at}
use Rattle.text.proofs.Unfolding.{Scanned}
use Rattle.line.proofs.check.control_in.Given as goal

abbrev pub invariant-loop-k : goal.invariant-loop-k
invariant-loop-k l = Scanned control_at l.s l.i 32 l.k l.first
