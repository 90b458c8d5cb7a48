use Rattle.line.proofs.Scanner.{Leads}
use Rattle.line.specs.declared.scan.State.TheVariants.{ParameterName}
use Rattle.line.proofs.scan.pass_name.Given as goal

abbrev pub invariant-loop-i : goal.invariant-loop-i
invariant-loop-i l = Leads l.line ParameterName l.from ParameterName l.i
