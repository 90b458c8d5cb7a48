-- `recurrence::time_range::between_in` meets its contract: the test is the definition's own.
use mathlib.Core.Path.{refl}
use Rattle.recurrence.specs.TimeRange.{between_in}
use Rattle.recurrence.proofs.time_range.between_in.Goals as goal

pub returns : goal.returns
unfolding between_in
returns c = refl
