-- `series::columns::is_nothing_taken` meets its contract: no row before k takes anything away.
use Rattle.series.proofs.ColumnsLaws.{nothing_start, nothing_more, nothing_end, nothing_stop}
use native.Mathlib.Omega.{arith}
use Rattle.series.proofs.columns.is_nothing_taken.Goals as goal

pub loop-k-init : goal.loop-k-init
loop-k-init c = nothing_start _ _ _

pub takes_nothing-requires : goal.takes_nothing-requires
takes_nothing-requires c = (omega arith, omega arith)

pub returns-then-not-takes_nothing : goal.returns-then-not-takes_nothing
returns-then-not-takes_nothing c = nothing_stop _ _ _

pub loop-k-preserved : goal.loop-k-preserved
loop-k-preserved c = nothing_more c.loop-k.invariant c.loop-k-test.true (c.takes_nothing.ensures c.if-not-takes_nothing.false)

pub returns : goal.returns
returns c = nothing_end c.loop-k.invariant c.loop-k-test.false
