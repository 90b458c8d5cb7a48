-- `events::rules::block_by` meets its contract: the test is that of the definition.
use Rattle.events.specs.Events.{block_by}
use Rattle.events.proofs.rules.block_by.Goals as goal

pub returns-then-g : goal.returns-then-g
unfolding block_by
returns-then-g c = simp c.if-g.true

pub returns : goal.returns
unfolding block_by
returns c = simp (c.block_from.ensures, c.if-g.false)
