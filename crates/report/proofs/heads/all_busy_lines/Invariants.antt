use Prim.Native.Nat.{◌-◌}
use lib.ListN.{length}
use Rattle.report.proofs.HeadsLaws.{HeadsLeft}
use Rattle.report.proofs.heads.all_busy_lines.Given as goal

abbrev pub invariant-loop-e : goal.invariant-loop-e
invariant-loop-e l = HeadsLeft l.s l.at

abbrev pub decreases-loop-e : goal.decreases-loop-e
decreases-loop-e l = length l.s - l.at
