-- `values::times::form_named` meets its contract: the words are tried in the order of the definition.
use Rattle.values.specs.Times.{form_named}
use mathlib.Core.Path.{sym, ◌∙◌}
use Rattle.values.proofs.times.form_named.Goals as goal

pub returns-then-same_name : goal.returns-then-same_name
unfolding form_named
returns-then-same_name c = rw (sym c.same_name.ensures ∙ c.if-same_name.true)

pub returns-then-same_name-2 : goal.returns-then-same_name-2
unfolding form_named
returns-then-same_name-2 c = rw (sym c.same_name.ensures ∙ c.if-same_name.false, sym c.same_name-2.ensures ∙ c.if-same_name-2.true)

pub returns : goal.returns
unfolding form_named
returns c = rw (sym c.same_name.ensures ∙ c.if-same_name.false, sym c.same_name-2.ensures ∙ c.if-same_name-2.false)
