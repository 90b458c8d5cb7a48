-- `values::times::utc_of` meets its contract: it is the callee's answer.
use Rattle.values.specs.Times.{utc_of}
use Rattle.values.proofs.times.utc_of.Goals as goal

pub returns : goal.returns
unfolding utc_of
returns c = c.utc_second.ensures
