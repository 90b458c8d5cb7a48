-- `pieces::storing::store_event` meets its contract: where no instance can have a piece, none is stored.
use Rattle.pieces.proofs.ColumnsStoring.{unstored}
use Rattle.pieces.proofs.storing.store_event.Goals as goal

pub returns : goal.returns
returns c = unstored (c.may_have_pieces.ensures c.if-may_have_pieces.false _ _ _)
