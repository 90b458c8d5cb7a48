-- `pieces::storing::may_have_pieces` meets its contract: free time is no piece, and neither is what is of zero length.
use Rattle.pieces.proofs.Pieces.{no_event_pieces}
use Rattle.pieces.proofs.storing.may_have_pieces.Goals as goal

pub returns : goal.returns
returns c = no_event_pieces _ c.is_busy.ensures c.is_zero_length.ensures
