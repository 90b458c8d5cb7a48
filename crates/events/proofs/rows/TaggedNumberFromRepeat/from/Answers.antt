-- `events::rows::TaggedNumber::from` meets its contract: each arm is one clause of the definition.
use Rattle.events.specs.EntryRows.{repeat_numbers}
use Rattle.events.proofs.rows.TaggedNumberFromRepeat.from.Goals as goal

pub returns-in-Once : goal.returns-in-Once
unfolding repeat_numbers
returns-in-Once c = simp c.in-Once.is

pub returns-in-Forever : goal.returns-in-Forever
unfolding repeat_numbers
returns-in-Forever c = simp c.in-Forever.is

pub returns-in-Count : goal.returns-in-Count
unfolding repeat_numbers
returns-in-Count c = simp c.in-Count.is

pub returns-in-Until : goal.returns-in-Until
unfolding repeat_numbers
returns-in-Until c = simp c.in-Until.is
