use Rattle.cli.proofs.ArgumentsLaws.{Digits}
use Rattle.cli.proofs.arguments.decimal_of.Given as goal

abbrev pub invariant-loop-b : goal.invariant-loop-b
invariant-loop-b l = Digits l.text l.n l.b-index
