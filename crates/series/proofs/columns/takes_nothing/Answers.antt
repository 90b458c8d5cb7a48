-- `series::columns::takes_nothing` meets its contract: what is no event's row has nothing, and of an event its link tells.
use Rattle.series.proofs.ColumnsLaws.{nothing_other, nothing_own, nothing_not}
use Rattle.series.proofs.columns.takes_nothing.Goals as goal

pub returns-then-kind_at-ne1 : goal.returns-then-kind_at-ne1
returns-then-kind_at-ne1 c = nothing_other _ _ _ c.kind_at.ensures c.if-kind_at-ne1.true

pub returns-in-None : goal.returns-in-None
returns-in-None c = nothing_own _ _ _ c.link_at-link.ensures c.in-None.is

pub returns-in-One : goal.returns-in-One
returns-in-One c = nothing_not _ _ _

pub returns-in-Several : goal.returns-in-Several
returns-in-Several c = nothing_not _ _ _
