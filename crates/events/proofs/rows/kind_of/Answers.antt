-- `events::rows::kind_of` meets its contract: each arm is one case of the definition, by the numbers that were not met before it.
use borrow.Author.Tests.{ne_eqb}
use native.Mathlib.Omega.{arith}
use Rattle.events.specs.EntryRows.{kind_of}
use Rattle.events.proofs.rows.kind_of.Goals as goal

pub returns-in-0 : goal.returns-in-0
unfolding kind_of
returns-in-0 c = rw c.in-0.is

pub returns-in-1 : goal.returns-in-1
unfolding kind_of
returns-in-1 c = rw c.in-1.is

pub returns-in_default : goal.returns-in_default
unfolding kind_of
returns-in_default c = rw (ne_eqb c.args.tag 0 (λ h. omega (arith, h)), ne_eqb c.args.tag 1 (λ h. omega (arith, h)))
