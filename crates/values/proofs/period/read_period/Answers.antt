-- `values::period::read_period` meets its contract: the place of the slash tells whether there is one, and where start and end stand.
use Rattle.values.proofs.PeriodLaws.{period_of_at, period_of_none}
use Rattle.line.proofs.Splitting.{before_fits}
use mathlib.Core.Path.{◌∙◌}
use Rattle.values.proofs.period.read_period.Goals as goal

pub slice_bounds-period_from-end : goal.slice_bounds-period_from-end
slice_bounds-period_from-end c = before_fits _ _ c.args.s.now _ c.find-e.ensures

pub returns-then-e-s : goal.returns-then-e-s
returns-then-e-s c = c.period_from.ensures ∙ period_of_at _ _ c.find-e.ensures c.if-e-s.true

pub returns : goal.returns
returns c = period_of_none _ _ c.find-e.ensures c.if-e-s.false
