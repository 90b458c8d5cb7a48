-- `property::busy_of` meets its contract: the word is what the callee answers.
use Rattle.property.specs.Properties.{busy_of, busy_named}
use mathlib.Core.Path.{ap, ◌∙◌}
use Rattle.property.proofs.busy_of.Goals as goal

pub returns : goal.returns
unfolding busy_of
returns c = c.busy_named.ensures ∙ ap busy_named c.first_value.ensures
