-- `values::period::period_to` meets its contract: each way out is one case of the definition.
use borrow.Author.Tests.{lt-ltb, le-ltb}
use Rattle.values.specs.Period.{period_to}
use Rattle.values.proofs.period.period_to.Goals as goal

pub returns-in_err-end : goal.returns-in_err-end
unfolding period_to
returns-in_err-end c = rw (c.in_err-end.was) c.from_residual.ensures

pub returns-then-start-end : goal.returns-then-start-end
unfolding period_to
returns-then-start-end c = rw (c.in_ok-end.was, lt-ltb _ _ c.if-start-end.true)

pub returns-else-start-end : goal.returns-else-start-end
unfolding period_to
returns-else-start-end c = rw (c.in_ok-end.was, le-ltb _ _ c.if-start-end.false)
