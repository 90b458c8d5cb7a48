-- `property::status_named` meets its contract: the words are tried in the order of the definition.
use Rattle.property.specs.Properties.{status_named}
use mathlib.Core.Path.{sym, ◌∙◌}
use Rattle.property.proofs.status_named.Goals as goal

pub returns-then-same_name : goal.returns-then-same_name
unfolding status_named
returns-then-same_name c = rw (sym c.same_name.ensures ∙ c.if-same_name.true)

pub returns-then-same_name-2 : goal.returns-then-same_name-2
unfolding status_named
returns-then-same_name-2 c = rw (sym c.same_name.ensures ∙ c.if-same_name.false, sym c.same_name-2.ensures ∙ c.if-same_name-2.true)

pub returns : goal.returns
unfolding status_named
returns c = rw (sym c.same_name.ensures ∙ c.if-same_name.false, sym c.same_name-2.ensures ∙ c.if-same_name-2.false)
