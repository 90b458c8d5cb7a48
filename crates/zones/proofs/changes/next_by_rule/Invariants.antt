use Rattle.zones.proofs.ChangesLaws.{Over}
use Rattle.zones.proofs.changes.next_by_rule.Given as goal

abbrev pub invariant-loop-y : goal.invariant-loop-y
invariant-loop-y l = Over l.p l.w l.y
