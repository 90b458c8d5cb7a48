-- `structure::rows::kind_of` meets its contract: each branch is one case of the definition.
use Rattle.structure.proofs.RowsLaws.{kind_event, kind_block, kind_other}
use Rattle.structure.proofs.rows.kind_of.Goals as goal

pub returns-then-same_name : goal.returns-then-same_name
returns-then-same_name c = kind_event _ c.same_name.ensures c.if-same_name.true

pub returns-then-same_name-2 : goal.returns-then-same_name-2
returns-then-same_name-2 c = kind_block _ c.same_name.ensures c.same_name-2.ensures c.if-same_name.false c.if-same_name-2.true

pub returns : goal.returns
returns c = kind_other _ c.same_name.ensures c.same_name-2.ensures c.if-same_name.false c.if-same_name-2.false
