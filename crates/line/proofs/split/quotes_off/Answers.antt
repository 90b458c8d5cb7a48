-- `line::split::quotes_off` meets its contract: a value that begins with a quote loses its first and last byte, and any other stays.
use Rattle.line.proofs.Splitting.{quotes_off_empty, quotes_off_other, quotes_off_inside, quotes_off_alone}
use Rattle.line.proofs.split.quotes_off.Goals as goal

pub returns-then-s-eq0 : goal.returns-then-s-eq0
returns-then-s-eq0 c = quotes_off_empty _ c.if-s-eq0.true

pub returns-then-s-ne34 : goal.returns-then-s-ne34
returns-then-s-ne34 c = quotes_off_other _ c.if-s-ne34.true

pub returns-then-s-eq1 : goal.returns-then-s-eq1
returns-then-s-eq1 c = quotes_off_alone _ c.if-s-ne34.false c.if-s-eq1.true

pub returns : goal.returns
returns c = quotes_off_inside _ c.if-s-ne34.false
