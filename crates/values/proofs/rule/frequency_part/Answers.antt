-- `values::rule::frequency_part` meets its contract: the words are tried in the order of the definition.
use Rattle.values.specs.Rule.{frequency_part}
use mathlib.Core.Path.{sym, ◌∙◌}
use Rattle.values.proofs.rule.frequency_part.Goals as goal

pub returns-then-same_name : goal.returns-then-same_name
unfolding frequency_part
returns-then-same_name c = rw (sym c.same_name.ensures ∙ c.if-same_name.true)

pub returns-then-same_name-2 : goal.returns-then-same_name-2
unfolding frequency_part
returns-then-same_name-2 c = rw (sym c.same_name.ensures ∙ c.if-same_name.false, sym c.same_name-2.ensures ∙ c.if-same_name-2.true)

pub returns : goal.returns
unfolding frequency_part
returns c = rw (sym c.same_name.ensures ∙ c.if-same_name.false, sym c.same_name-2.ensures ∙ c.if-same_name-2.false)
