-- `events::rows::EndingNumbers::from` meets its contract: each arm is one clause of the definition.
use Rattle.events.specs.EntryRows.{ending_numbers}
use Rattle.events.proofs.EntryRows.{lasts_numbers}
use Rattle.events.proofs.rows.EndingNumbersFromEnding.from.Goals as goal

pub returns-in-End : goal.returns-in-End
unfolding ending_numbers
returns-in-End c = simp c.in-End.is

pub returns-in-Lasts : goal.returns-in-Lasts
returns-in-Lasts c = lasts_numbers _ c.in-Lasts.is

pub returns-in-None : goal.returns-in-None
unfolding ending_numbers
returns-in-None c = simp c.in-None.is
