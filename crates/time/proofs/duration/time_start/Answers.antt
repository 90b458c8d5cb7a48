-- `time::duration::time_start` meets its contract: each arm is the definition at its letter, or at none of the letters.
use Rattle.time.proofs.DurationLaws.{time_start_at}
use borrow.Author.Tests.{ne_eqb}
use Rattle.time.specs.Duration.{time_start}
use Rattle.time.proofs.duration.time_start.Goals as goal

pub returns-in-72 : goal.returns-in-72
unfolding time_start
returns-in-72 c = time_start_at _ 72 c.in-72.is

pub returns-in-77 : goal.returns-in-77
unfolding time_start
returns-in-77 c = time_start_at _ 77 c.in-77.is

pub returns-in-83 : goal.returns-in-83
unfolding time_start
returns-in-83 c = time_start_at _ 83 c.in-83.is

pub returns-in_default : goal.returns-in_default
unfolding time_start
returns-in_default c = rw (ne_eqb _ 72 c.in_default.in_default-own.rest.0.0.1, ne_eqb _ 77 c.in_default.in_default-own.rest.0.1, ne_eqb _ 83 c.in_default.in_default-own.rest.1)
