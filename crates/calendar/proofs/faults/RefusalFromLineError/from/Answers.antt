-- The refusal of a line's error meets its contract: each arm is one clause of `by_values`.
use mathlib.Core.Path.{refl}
use Rattle.calendar.specs.Meaning.{by_values, fault_of}
use Rattle.calendar.proofs.faults.RefusalFromLineError.from.Goals as goal

pub returns-in-Unsupported : goal.returns-in-Unsupported
unfolding by_values fault_of
returns-in-Unsupported c = λ m. rw (c.in-Unsupported.is) refl

pub returns-in-Bad : goal.returns-in-Bad
unfolding by_values fault_of
returns-in-Bad c = λ m. rw (c.in-Bad.is) refl
