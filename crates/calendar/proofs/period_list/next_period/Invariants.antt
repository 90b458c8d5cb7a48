use Prim.Native.Nat.{◌-◌}
use lib.ListN.{length}
use Rattle.calendar.proofs.Periods.{Leaving}
use Rattle.calendar.proofs.period_list.next_period.Given as goal

abbrev pub invariant-loop-at : goal.invariant-loop-at
invariant-loop-at l = Leaving l.v l.from l.at

abbrev pub decreases-loop-at : goal.decreases-loop-at
decreases-loop-at l = length l.v - l.at
