-- `demands::length_of` meets its contract: each arm is a clause of the definition.
use mathlib.Core.Path.{sym, ap}
use Rattle.demands.specs.PairedCalls.{length_of}
use Rattle.demands.proofs.length_of.Goals as goal

pub returns-in-Verdict : goal.returns-in-Verdict
unfolding length_of
returns-in-Verdict c = ap length_of (sym c.in-Verdict.is)

pub returns-in-Length : goal.returns-in-Length
unfolding length_of
returns-in-Length c = ap length_of (sym c.in-Length.is)

pub returns-in-Refused : goal.returns-in-Refused
unfolding length_of
returns-in-Refused c = ap length_of (sym c.in-Refused.is)
