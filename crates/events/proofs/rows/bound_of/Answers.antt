-- `events::rows::bound_of` meets its contract: the test is that of the definition.
use Rattle.events.specs.EntryRows.{bound_of}
use mathlib.Core.Path.{◌∙◌}
use Rattle.events.proofs.EntryRows.{given_then}
use Rattle.events.proofs.rows.bound_of.Goals as goal

pub returns : goal.returns
unfolding bound_of
returns c = c.then_some.ensures ∙ given_then _ _
