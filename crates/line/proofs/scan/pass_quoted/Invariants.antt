use Rattle.line.proofs.Scanner.{Leads}
use Rattle.line.specs.declared.scan.State.TheVariants.{Quoted}
use Rattle.line.proofs.scan.pass_quoted.Given as goal

abbrev pub invariant-loop-i : goal.invariant-loop-i
invariant-loop-i l = Leads l.line Quoted l.from Quoted l.i
