-- `events::rows::block_at` meets its contract: each field is that of the definition.
use Rattle.events.specs.EntryRows.{block_at}
use Rattle.events.proofs.rows.block_at.Goals as goal

pub returns : goal.returns
unfolding block_at
returns c = simp (c.bound_of.ensures, c.bound_of-2.ensures)
