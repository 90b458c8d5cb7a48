-- `recurrence::instance::length_of` meets its contract: each arm is the definition at its variant; an end is later than the start, and a duration small.
use Rattle.recurrence.proofs.Instances.{ends_by, lasts_by}
use Rattle.recurrence.specs.Instances.{length_by}
use native.Mathlib.Omega.{arith}
use Rattle.recurrence.proofs.instance.length_of.Goals as goal

pub overflow_sub-result : goal.overflow_sub-result
overflow_sub-result c = omega (arith, (ends_by c.requires c.in-End.is).0)

pub duration_seconds-requires : goal.duration_seconds-requires
duration_seconds-requires c = let h = lasts_by c.requires c.in-Lasts.is in (h.few_days, h.few_seconds)

pub returns-in-End : goal.returns-in-End
unfolding length_by
returns-in-End c = simp c.in-End.is

pub returns-in-Lasts : goal.returns-in-Lasts
unfolding length_by
returns-in-Lasts c = simp (c.duration_seconds.ensures, c.in-Lasts.is)

pub returns-in-None : goal.returns-in-None
unfolding length_by
returns-in-None c = simp (c.default_length.ensures, c.in-None.is)
