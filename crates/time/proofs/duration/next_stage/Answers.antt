-- `time::duration::next_stage` meets its contract: each arm is the definition at its stage and letter, or at none of the letters.
use Rattle.time.proofs.DurationLaws.{next_stage_at}
use borrow.Author.Tests.{ne_eqb}
use Rattle.time.specs.Duration.{next_stage}
use Rattle.time.specs.declared.duration.Stage.TheVariants.{Start, Sign, Period, Weeks, Days, Time, Hours, Minutes, Seconds, Wrong}
use mathlib.Core.Path.{refl, ◌∙◌}
use Rattle.time.proofs.duration.next_stage.Goals as goal

pub returns-in-43 : goal.returns-in-43
unfolding next_stage
returns-in-43 c = next_stage_at _ Start _ 43 c.in-Start.is c.in-43.is

pub returns-in-80 : goal.returns-in-80
unfolding next_stage
returns-in-80 c = next_stage_at _ Start _ 80 c.in-Start.is c.in-80.is

pub returns-in_default : goal.returns-in_default
unfolding next_stage
returns-in_default c = rw (c.in-Start.is, ne_eqb _ 43 c.in_default.in_default-own.rest.0.1, ne_eqb _ 80 c.in_default.in_default-own.rest.1)

pub returns-in-80-letter : goal.returns-in-80-letter
unfolding next_stage
returns-in-80-letter c = next_stage_at _ Sign _ 80 c.in-Sign.is c.in-80-letter.is

pub returns-in_default-letter : goal.returns-in_default-letter
unfolding next_stage
returns-in_default-letter c = rw (c.in-Sign.is, ne_eqb _ 80 c.in_default-letter.in_default-letter-own.rest.1)

pub returns-in-87 : goal.returns-in-87
unfolding next_stage
returns-in-87 c = next_stage_at _ Period _ 87 c.in-Period.is c.in-87.is

pub returns-in-68 : goal.returns-in-68
unfolding next_stage
returns-in-68 c = next_stage_at _ Period _ 68 c.in-Period.is c.in-68.is

pub returns-in-84 : goal.returns-in-84
unfolding next_stage
returns-in-84 c = next_stage_at _ Period _ 84 c.in-Period.is c.in-84.is

pub returns-in_default-letter-2 : goal.returns-in_default-letter-2
unfolding next_stage
returns-in_default-letter-2 c = rw (c.in-Period.is, ne_eqb _ 87 c.in_default-letter-2.in_default-letter-2-own.rest.0.0.1, ne_eqb _ 68 c.in_default-letter-2.in_default-letter-2-own.rest.0.1, ne_eqb _ 84 c.in_default-letter-2.in_default-letter-2-own.rest.1)

pub returns-in-Weeks : goal.returns-in-Weeks
unfolding next_stage
returns-in-Weeks c = next_stage_at _ Weeks _ _ c.in-Weeks.is refl

pub returns-in-84-letter : goal.returns-in-84-letter
unfolding next_stage
returns-in-84-letter c = next_stage_at _ Days _ 84 c.in-Days.is c.in-84-letter.is

pub returns-in_default-letter-3 : goal.returns-in_default-letter-3
unfolding next_stage
returns-in_default-letter-3 c = rw (c.in-Days.is, ne_eqb _ 84 c.in_default-letter-3.in_default-letter-3-own.rest.1)

pub returns-in-Time : goal.returns-in-Time
unfolding next_stage
returns-in-Time c = c.time_start.ensures ∙ next_stage_at _ Time _ _ c.in-Time.is refl

pub returns-in-77 : goal.returns-in-77
unfolding next_stage
returns-in-77 c = next_stage_at _ Hours _ 77 c.in-Hours.is c.in-77.is

pub returns-in_default-letter-4 : goal.returns-in_default-letter-4
unfolding next_stage
returns-in_default-letter-4 c = rw (c.in-Hours.is, ne_eqb _ 77 c.in_default-letter-4.in_default-letter-4-own.rest.1)

pub returns-in-83 : goal.returns-in-83
unfolding next_stage
returns-in-83 c = next_stage_at _ Minutes _ 83 c.in-Minutes.is c.in-83.is

pub returns-in_default-letter-5 : goal.returns-in_default-letter-5
unfolding next_stage
returns-in_default-letter-5 c = rw (c.in-Minutes.is, ne_eqb _ 83 c.in_default-letter-5.in_default-letter-5-own.rest.1)

pub returns-in-Seconds : goal.returns-in-Seconds
unfolding next_stage
returns-in-Seconds c = next_stage_at _ Seconds _ _ c.in-Seconds.is refl

pub returns-in-Wrong : goal.returns-in-Wrong
unfolding next_stage
returns-in-Wrong c = next_stage_at _ Wrong _ _ c.in-Wrong.is refl
