use Rattle.line.proofs.Scanner.{Leads}
use Rattle.line.specs.declared.scan.State.TheVariants.{Unquoted}
use Rattle.line.proofs.scan.pass_unquoted.Given as goal

abbrev pub invariant-loop-i : goal.invariant-loop-i
invariant-loop-i l = Leads l.line Unquoted l.from Unquoted l.i
