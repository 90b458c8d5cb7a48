-- `filter::components::is_called` meets its contract: the name is the value of the line before the first of the component.
use Rattle.filter.proofs.Tests.{begin_some, begin_entry, begin_named}
use Rattle.filter.proofs.components.is_called.Goals as goal

pub first_line-i-requires : goal.first_line-i-requires
first_line-i-requires c = c.requires.row_of.room

pub overflow_sub-i : goal.overflow_sub-i
overflow_sub-i c = begin_some c.requires.row_of c.first_line-i.ensures

pub line_at-requires : goal.line_at-requires
line_at-requires c = begin_entry c.requires.row_of c.requires.indexed c.first_line-i.ensures

pub returns : goal.returns
returns c = begin_named _ _ _ _ c.first_line-i.ensures c.line_at.ensures c.value.ensures c.same_name.ensures
