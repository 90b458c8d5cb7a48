-- `series::masters::master_of` meets its contract: the rows that are left decide.
use Rattle.series.proofs.MasterLaws.{masters_start, masters_more, masters_found, masters_none}
use Rattle.series.proofs.masters.master_of.Goals as goal

pub loop-k-init : goal.loop-k-init
loop-k-init c = masters_start _ _ _ _ _

pub is_master_of-requires : goal.is_master_of-requires
is_master_of-requires c = c.requires.each _ c.loop-k-test.true

pub returns-then-is_master_of : goal.returns-then-is_master_of
returns-then-is_master_of c = masters_found c.loop-k.invariant c.is_master_of.ensures c.loop-k-test.true c.if-is_master_of.true

pub loop-k-preserved : goal.loop-k-preserved
loop-k-preserved c = masters_more c.loop-k.invariant c.is_master_of.ensures c.loop-k-test.true c.if-is_master_of.false

pub returns : goal.returns
returns c = masters_none c.loop-k.invariant c.loop-k-test.false
