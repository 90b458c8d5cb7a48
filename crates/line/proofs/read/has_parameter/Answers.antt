-- `line::read::has_parameter` meets its contract: the name stands where the count is at least 1.
use lib.Dec.{ltb}
use Rattle.line.specs.declared.read.Usage.{Usage}
use Rattle.line.specs.Reading.{has_parameter, usage_of}
use mathlib.Core.Path.{ap}
use Rattle.line.proofs.read.has_parameter.Goals as goal

pub returns : goal.returns
unfolding has_parameter usage_of
returns c = ap (λ (u : Usage). ltb 0 u.times) c.usage_of-u.ensures
