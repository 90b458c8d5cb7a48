-- `values::times::time_by` meets its contract: no value, no second within the limits, or the time.
use Rattle.values.specs.Times.{time_by, at_second}
use mathlib.Core.Path.{sym, ◌∙◌}
use Rattle.values.proofs.times.time_by.Goals as goal

pub returns-in_err-kind : goal.returns-in_err-kind
unfolding time_by
returns-in_err-kind c = rw (c.in_err-kind.was) c.from_residual.ensures

pub returns-in_err-second : goal.returns-in_err-second
unfolding time_by at_second
returns-in_err-second c = rw (c.in_ok-kind.was, sym c.utc_of.ensures ∙ c.in_err-second.was) c.from_residual-in_err-second.ensures

pub returns : goal.returns
unfolding time_by at_second
returns c = rw (c.in_ok-kind.was, sym c.utc_of.ensures ∙ c.in_ok-second.was)
