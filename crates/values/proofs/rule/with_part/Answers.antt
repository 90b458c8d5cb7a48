-- `values::rule::with_part` meets its contract: each arm is the definition's clause.
use Rattle.values.specs.Rule.{with_part}
use Rattle.values.proofs.rule.with_part.Goals as goal

pub returns-in-Frequency : goal.returns-in-Frequency
unfolding with_part
returns-in-Frequency c = rw (c.in-Ok.is, c.in-Frequency.is)

pub returns-in-Interval : goal.returns-in-Interval
unfolding with_part
returns-in-Interval c = rw (c.in-Ok.is, c.in-Interval.is)

pub returns-in-Limit : goal.returns-in-Limit
unfolding with_part
returns-in-Limit c = rw (c.in-Ok.is, c.in-Limit.is, c.is_some.ensures)

pub returns-in-Unsupported : goal.returns-in-Unsupported
unfolding with_part
returns-in-Unsupported c = rw (c.in-Err.is, c.in-Unsupported.is)

pub returns-in-Bad : goal.returns-in-Bad
unfolding with_part
returns-in-Bad c = rw (c.in-Err.is, c.in-Bad.is)
