-- `line::split::quoted_after` meets its contract: each branch is one case of the test on the byte.
use Rattle.line.proofs.split.quoted_after.Goals as goal

pub returns-then-quoting-b : goal.returns-then-quoting-b
returns-then-quoting-b c = rw c.if-quoting-b.true

pub returns-else-quoting-b : goal.returns-else-quoting-b
returns-else-quoting-b c = rw c.if-quoting-b.false
