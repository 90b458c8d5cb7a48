use Prim.Native.Nat.{◌-◌}
use Rattle.series.proofs.PassLaws.{Checking}
use Rattle.series.proofs.passes.first_fault.Given as goal

abbrev pub invariant-loop-k : goal.invariant-loop-k
invariant-loop-k l = Checking l.c l.cal.text.now l.cal.rows.now l.events.links.now l.m l.alone l.k

abbrev pub decreases-loop-k : goal.decreases-loop-k
decreases-loop-k l = l.m - l.k
