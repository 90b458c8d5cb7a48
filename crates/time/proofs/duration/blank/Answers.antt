-- `time::duration::blank` meets its contract: the struct is the definition's own.
use Rattle.time.specs.Duration.{blank}
use mathlib.Core.Path.{refl}
use Rattle.time.proofs.duration.blank.Goals as goal

pub returns : goal.returns
unfolding blank
returns c = refl
