-- `time::duration::duration_seconds` meets its contract: the sum is the definition's own expression.
use Rattle.time.specs.Duration.{duration_seconds}
use mathlib.Core.Path.{refl}
use Rattle.time.proofs.duration.duration_seconds.Goals as goal

pub returns : goal.returns
unfolding duration_seconds
returns c = refl
