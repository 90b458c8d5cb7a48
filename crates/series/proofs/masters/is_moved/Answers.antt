-- `series::masters::is_moved` meets its contract: the rows that are left decide.
use Rattle.series.proofs.MasterLaws.{some_start, some_more, some_there, some_nowhere}
use Rattle.series.proofs.masters.is_moved.Goals as goal

pub loop-k-init : goal.loop-k-init
loop-k-init c = some_start _ _ _ _ _

pub is_named-requires : goal.is_named-requires
is_named-requires c =
    record {
      row_tied = c.requires.tied.each _ c.loop-k-test.true;
      one_at = c.requires.one_each _ c.loop-k-test.true;
    }

pub returns-then-is_named : goal.returns-then-is_named
returns-then-is_named c = some_there c.loop-k.invariant c.is_named.ensures c.loop-k-test.true c.if-is_named.true

pub loop-k-preserved : goal.loop-k-preserved
loop-k-preserved c = some_more c.loop-k.invariant c.is_named.ensures c.loop-k-test.true c.if-is_named.false

pub returns : goal.returns
returns c = some_nowhere c.loop-k.invariant c.loop-k-test.false
