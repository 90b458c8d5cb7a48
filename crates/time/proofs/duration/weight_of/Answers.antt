-- `time::duration::weight_of` meets its contract: each arm is the definition at its stage.
use Rattle.time.proofs.DurationLaws.{weight_of_at}
use Rattle.time.specs.Duration.{weight_of}
use Rattle.time.specs.declared.duration.Stage.TheVariants.{Start, Sign, Period, Weeks, Days, Time, Hours, Minutes, Seconds, Wrong}
use Rattle.time.proofs.duration.weight_of.Goals as goal

pub returns-in-Start : goal.returns-in-Start
unfolding weight_of
returns-in-Start c = weight_of_at _ Start c.in-Start.is

pub returns-in-Sign : goal.returns-in-Sign
unfolding weight_of
returns-in-Sign c = weight_of_at _ Sign c.in-Sign.is

pub returns-in-Period : goal.returns-in-Period
unfolding weight_of
returns-in-Period c = weight_of_at _ Period c.in-Period.is

pub returns-in-Weeks : goal.returns-in-Weeks
unfolding weight_of
returns-in-Weeks c = weight_of_at _ Weeks c.in-Weeks.is

pub returns-in-Days : goal.returns-in-Days
unfolding weight_of
returns-in-Days c = weight_of_at _ Days c.in-Days.is

pub returns-in-Time : goal.returns-in-Time
unfolding weight_of
returns-in-Time c = weight_of_at _ Time c.in-Time.is

pub returns-in-Hours : goal.returns-in-Hours
unfolding weight_of
returns-in-Hours c = weight_of_at _ Hours c.in-Hours.is

pub returns-in-Minutes : goal.returns-in-Minutes
unfolding weight_of
returns-in-Minutes c = weight_of_at _ Minutes c.in-Minutes.is

pub returns-in-Seconds : goal.returns-in-Seconds
unfolding weight_of
returns-in-Seconds c = weight_of_at _ Seconds c.in-Seconds.is

pub returns-in-Wrong : goal.returns-in-Wrong
unfolding weight_of
returns-in-Wrong c = weight_of_at _ Wrong c.in-Wrong.is
