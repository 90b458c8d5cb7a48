-- `values::time_lists::with_kind` meets its contract: each way out is a clause of the definition, or an arm of its test.
use mathlib.Core.Path.{sym, ◌∙◌}
use Rattle.values.specs.TimeLists.{with_kind}
use Rattle.values.proofs.TimeLists.{kind_eq}
use Rattle.values.proofs.time_lists.with_kind.Goals as goal

pub returns-in-None : goal.returns-in-None
unfolding with_kind
returns-in-None c = rw c.in-None.is

pub returns-then-eq : goal.returns-then-eq
unfolding with_kind
returns-then-eq c = rw (c.in-One.is, sym (kind_eq _ _) ∙ sym c.eq.ensures ∙ c.if-eq.true)

pub returns-else-eq : goal.returns-else-eq
unfolding with_kind
returns-else-eq c = rw (c.in-One.is, sym (kind_eq _ _) ∙ sym c.eq.ensures ∙ c.if-eq.false)

pub returns-in-Several : goal.returns-in-Several
unfolding with_kind
returns-in-Several c = rw c.in-Several.is
