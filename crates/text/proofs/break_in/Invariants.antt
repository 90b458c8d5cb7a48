use Rattle.text.specs.Lines.{break_at}
use Rattle.text.proofs.Unfolding.{Scanned}
use Rattle.text.proofs.break_in.Given as goal

abbrev pub invariant-loop-k : goal.invariant-loop-k
invariant-loop-k l = Scanned break_at l.s l.i 64 l.k l.first
