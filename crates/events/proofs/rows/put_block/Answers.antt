-- `events::rows::put_block` meets its contract: the numbers handed to `put_row` are those of the block.
use Rattle.events.proofs.EntryRows.{block_numbers, put_as}
use Rattle.events.proofs.rows.put_block.Goals as goal

pub returns : goal.returns
returns c =
    put_as
    c.put_row.ensures
    (block_numbers _ c.from-from.ensures c.from-to.ensures)
