-- `pieces::storing::store_period` meets its contract: the test is that there is room and a piece.
use Rattle.pieces.proofs.ColumnsStoring.{piece_stored, piece_left, piece_small}
use Rattle.pieces.proofs.storing.store_period.Goals as goal

pub put_piece-requires : goal.put_piece-requires
put_piece-requires c =
    let h = piece_small _ _ _ c.args.b c.args.end c.min-to.ensures c.requires.b_le_last_second c.if-n-is_busy.true in
    record {
      room = c.requires.room;
      n_bound = h.0;
      from_le_last_second = h.1;
      to_le_last_second = h.2;
    }

pub returns-then-n-is_busy : goal.returns-then-n-is_busy
returns-then-n-is_busy c =
    piece_stored _ _ _ _ _ c.is_busy.ensures c.max-from.ensures c.min-to.ensures
    c.if-n-is_busy.true
    c.put_piece.ensures

pub returns-else-n-is_busy : goal.returns-else-n-is_busy
returns-else-n-is_busy c = piece_left _ _ _ _ _ c.is_busy.ensures c.max-from.ensures c.min-to.ensures c.if-n-is_busy.false
