-- `recurrence::instance::default_length` meets its contract: each arm is the definition at its variant.
use Rattle.recurrence.specs.Instances.{default_length}
use Rattle.recurrence.proofs.instance.default_length.Goals as goal

pub returns-in-Utc : goal.returns-in-Utc
unfolding default_length
returns-in-Utc c = simp c.in-Utc.is

pub returns-in-Floating : goal.returns-in-Floating
unfolding default_length
returns-in-Floating c = simp c.in-Floating.is

pub returns-in-Date : goal.returns-in-Date
unfolding default_length
returns-in-Date c = simp c.in-Date.is
