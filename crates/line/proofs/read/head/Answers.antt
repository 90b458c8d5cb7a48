-- `line::read::head` meets its contract: the head is what stands before the colon.
use Rattle.line.specs.Reading.{head_of}
use Rattle.line.proofs.read.head.Goals as goal

pub returns : goal.returns
unfolding head_of
returns c = c.before-2.ensures
