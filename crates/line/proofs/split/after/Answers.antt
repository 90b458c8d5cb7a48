-- `line::split::after` meets its contract: the bytes behind the place found, or none where that is the end.
use Rattle.line.proofs.Splitting.{after_part, after_none}
use Rattle.line.proofs.split.after.Goals as goal

pub returns-then-e-s : goal.returns-then-e-s
returns-then-e-s c = after_part _ _ c.args.s.now _ c.find-e.ensures

pub returns-else-e-s : goal.returns-else-e-s
returns-else-e-s c = after_none _ _ c.args.s.now _ c.find-e.ensures c.if-e-s.false
