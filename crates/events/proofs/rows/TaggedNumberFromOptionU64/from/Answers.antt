-- `events::rows::TaggedNumber::from` meets its contract: each arm is one clause of the definition.
use Rattle.events.specs.EntryRows.{bound_numbers}
use Rattle.events.proofs.rows.TaggedNumberFromOptionU64.from.Goals as goal

pub returns-in-Some : goal.returns-in-Some
unfolding bound_numbers
returns-in-Some c = simp c.in-Some.is

pub returns-in-None : goal.returns-in-None
unfolding bound_numbers
returns-in-None c = simp c.in-None.is
