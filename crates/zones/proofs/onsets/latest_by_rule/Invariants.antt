use Rattle.zones.proofs.OnsetsLaws.{Passed}
use Rattle.zones.proofs.onsets.latest_by_rule.Given as goal

abbrev pub invariant-loop-y : goal.invariant-loop-y
invariant-loop-y l = Passed l.p l.w l.y
