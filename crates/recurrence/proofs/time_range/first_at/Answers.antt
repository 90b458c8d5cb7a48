-- `recurrence::time_range::first_at` meets its contract: each branch is the definition's own.
use Prim.Native.Nat.{◌+◌, ◌-◌}
use native.Mathlib.Nat.{div-le_self}
use borrow.Author.Tests.{lt-ltb, le-ltb}
use Rattle.recurrence.specs.Candidates.{first_at}
use native.Mathlib.Omega.{arith}
use Rattle.recurrence.proofs.time_range.first_at.Goals as goal

pub overflow_add-result : goal.overflow_add-result
overflow_add-result c = omega (arith, div-le_self (c.args.a - (c.args.s + c.args.span)) c.args.d)

pub returns-then-a-end : goal.returns-then-a-end
unfolding first_at
returns-then-a-end c = simp (lt-ltb _ _ c.if-a-end.true)

pub returns-else-a-end : goal.returns-else-a-end
unfolding first_at
returns-else-a-end c = simp (le-ltb _ _ c.if-a-end.false)
