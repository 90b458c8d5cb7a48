-- `ascii::same_byte` meets its contract: equal bytes are equal in upper case too.
use mathlib.Core.Path.{sym, ap}
use borrow.Author.Tests.{eq-eqb}
use Rattle.ascii.specs.Bytes.{upper}
use Rattle.ascii.proofs.same_byte.Goals as goal

pub returns-then-a-b : goal.returns-then-a-b
returns-then-a-b c = sym (eq-eqb _ _ (ap upper c.if-a-b.true))

pub returns : goal.returns
returns c = simp (c.upper.ensures, c.upper-2.ensures)
