-- `line::read::value` meets its contract: the value is what stands behind the colon.
use Rattle.line.specs.Reading.{value_of}
use Rattle.line.proofs.read.value.Goals as goal

pub returns : goal.returns
unfolding value_of
returns c = c.after.ensures
