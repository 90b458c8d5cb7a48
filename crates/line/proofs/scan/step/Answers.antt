-- `line::scan::step` meets its contract: each arm of the match is the definition's own case, with what its callees ensure put in.
use Rattle.line.specs.Scanner.{step}
use Rattle.line.proofs.scan.step.Goals as goal

pub returns-in-Start : goal.returns-in-Start
unfolding step
returns-in-Start c = simp (c.name_or.ensures, c.in-Start.is)

pub returns-in-Name : goal.returns-in-Name
unfolding step
returns-in-Name c = simp (c.name_or-in-Name.ensures, c.name_end.ensures, c.in-Name.is)

pub returns-in-ParameterStart : goal.returns-in-ParameterStart
unfolding step
returns-in-ParameterStart c = simp (c.name_or-in-ParameterStart.ensures, c.in-ParameterStart.is)

pub returns-in-ParameterName : goal.returns-in-ParameterName
unfolding step
returns-in-ParameterName c = simp (c.name_or-in-ParameterName.ensures, c.byte_or.ensures, c.in-ParameterName.is)

pub returns-in-ValueStart : goal.returns-in-ValueStart
unfolding step
returns-in-ValueStart c = simp (c.byte_or-in-ValueStart.ensures, c.after_value.ensures, c.unless_control.ensures, c.in-ValueStart.is)

pub returns-in-Unquoted : goal.returns-in-Unquoted
unfolding step
returns-in-Unquoted c = simp (c.byte_or-in-Unquoted.ensures, c.after_value-in-Unquoted.ensures, c.unless_control-in-Unquoted.ensures, c.in-Unquoted.is)

pub returns-in-Quoted : goal.returns-in-Quoted
unfolding step
returns-in-Quoted c = simp (c.byte_or-in-Quoted.ensures, c.unless_control-in-Quoted.ensures, c.in-Quoted.is)

pub returns-in-AfterQuoted : goal.returns-in-AfterQuoted
unfolding step
returns-in-AfterQuoted c = simp (c.after_value-in-AfterQuoted.ensures, c.in-AfterQuoted.is)

pub returns-in-Value : goal.returns-in-Value
unfolding step
returns-in-Value c = simp (c.unless_control-in-Value.ensures, c.in-Value.is)

pub returns-in-Wrong : goal.returns-in-Wrong
unfolding step
returns-in-Wrong c = simp c.in-Wrong.is
