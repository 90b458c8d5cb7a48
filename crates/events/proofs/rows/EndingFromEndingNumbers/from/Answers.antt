-- `events::rows::Ending::from` meets its contract: each arm is one case of the definition, by the numbers that were not met before it.
use borrow.Author.Tests.{ne_eqb}
use native.Mathlib.Omega.{arith}
use Rattle.events.specs.EntryRows.{ending_of}
use Rattle.events.proofs.rows.EndingFromEndingNumbers.from.Goals as goal

pub returns-in-0 : goal.returns-in-0
unfolding ending_of
returns-in-0 c = rw c.in-0.is

pub returns-in-1 : goal.returns-in-1
unfolding ending_of
returns-in-1 c = rw c.in-1.is

pub returns-in_default : goal.returns-in_default
unfolding ending_of
returns-in_default c = rw (ne_eqb c.args.numbers.tag 0 (λ h. omega (arith, h)), ne_eqb c.args.numbers.tag 1 (λ h. omega (arith, h)))
