-- `events::rows::Repeat::from` meets its contract: each arm is one case of the definition, by the numbers that were not met before it.
use borrow.Author.Tests.{ne_eqb}
use native.Mathlib.Omega.{arith}
use Rattle.events.specs.EntryRows.{repeat_of}
use Rattle.events.proofs.rows.RepeatFromTaggedNumber.from.Goals as goal

pub returns-in-0 : goal.returns-in-0
unfolding repeat_of
returns-in-0 c = rw c.in-0.is

pub returns-in-1 : goal.returns-in-1
unfolding repeat_of
returns-in-1 c = rw c.in-1.is

pub returns-in-2 : goal.returns-in-2
unfolding repeat_of
returns-in-2 c = rw c.in-2.is

pub returns-in_default : goal.returns-in_default
unfolding repeat_of
returns-in_default c = rw (ne_eqb c.args.numbers.tag 0 (λ h. omega (arith, h)), ne_eqb c.args.numbers.tag 1 (λ h. omega (arith, h)), ne_eqb c.args.numbers.tag 2 (λ h. omega (arith, h)))
