use Rattle.values.proofs.RuleLaws.{Digits}
use Rattle.values.proofs.rule.number_to.Given as goal

abbrev pub invariant-loop-b : goal.invariant-loop-b
invariant-loop-b l = Digits l.s l.n l.b-index
