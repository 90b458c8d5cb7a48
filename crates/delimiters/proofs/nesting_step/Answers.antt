-- `delimiters::nesting_step` meets its contract: each arm is one case of the delimiter that the line is.
use Rattle.delimiters.proofs.Innermost.{step_begins, step_ends, step_stays, step_wrong}
use Rattle.delimiters.proofs.nesting_step.Goals as goal

pub returns-then-may_begin : goal.returns-then-may_begin
returns-then-may_begin c =
    step_begins _ _ _ c.delimiter_of.ensures c.value-value.ensures c.in-Begins.is c.may_begin.ensures c.if-may_begin.true

pub returns-else-may_begin : goal.returns-else-may_begin
returns-else-may_begin c =
    step_begins _ _ _ c.delimiter_of.ensures c.value-value.ensures c.in-Begins.is c.may_begin.ensures c.if-may_begin.false

pub returns-then-same_name : goal.returns-then-same_name
returns-then-same_name c =
    step_ends _ _ _ c.delimiter_of.ensures c.value-value-in-Ends.ensures c.in-Ends.is c.same_name.ensures c.if-same_name.true

pub returns-else-same_name : goal.returns-else-same_name
returns-else-same_name c =
    step_ends _ _ _ c.delimiter_of.ensures c.value-value-in-Ends.ensures c.in-Ends.is c.same_name.ensures c.if-same_name.false

pub returns-in-Property : goal.returns-in-Property
returns-in-Property c = step_stays _ _ _ _ c.delimiter_of.ensures c.in-Property.is

pub returns-in-Wrong : goal.returns-in-Wrong
returns-in-Wrong c = step_wrong _ _ _ _ c.delimiter_of.ensures c.in-Wrong.is
