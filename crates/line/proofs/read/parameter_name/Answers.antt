-- `line::read::parameter_name` meets its contract: the name is what stands before the equals sign.
use Rattle.line.specs.Reading.{parameter_name}
use Rattle.line.proofs.read.parameter_name.Goals as goal

pub returns : goal.returns
unfolding parameter_name
returns c = c.before-2.ensures
