-- `line::scan::pass_part` meets its contract: in two states it is that of the function called, and in the others nothing is passed.
use Rattle.line.proofs.Scanner.{leads_in}
use Rattle.line.proofs.scan.pass_part.Goals as goal

pub returns-in-ParameterStart : goal.returns-in-ParameterStart
returns-in-ParameterStart c = leads_in _ _ _ _ c.in-ParameterStart.is c.pass_parameter.ensures

pub returns-in-ValueStart : goal.returns-in-ValueStart
returns-in-ValueStart c = leads_in _ _ _ _ c.in-ValueStart.is c.pass_value.ensures
