-- `pieces::storing::store_instance` meets its contract: an instance that stands has the piece of its period, any other none.
use Rattle.pieces.proofs.ColumnsStoring.{instance_stored, instance_left}
use Rattle.pieces.proofs.storing.store_instance.Goals as goal

pub returns-then-occurs : goal.returns-then-occurs
returns-then-occurs c =
    instance_stored _ _ _ _ _ c.occurs.ensures _ _ c.if-occurs.true c.start_of.ensures c.end_of.ensures
    c.store_period.ensures

pub returns-else-occurs : goal.returns-else-occurs
returns-else-occurs c = instance_left _ _ _ _ _ c.occurs.ensures c.if-occurs.false
