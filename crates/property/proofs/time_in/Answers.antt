-- `property::time_in` meets its contract: each arm is the definition's clause.
use Rattle.property.specs.Properties.{time_in}
use Rattle.property.proofs.time_in.Goals as goal

pub returns-in-Event : goal.returns-in-Event
unfolding time_in
returns-in-Event c = rw c.in-Event.is

pub returns-in-FreeBusy : goal.returns-in-FreeBusy
unfolding time_in
returns-in-FreeBusy c = simp (c.utc_only.ensures, c.in-FreeBusy.is)

pub returns-in-Other : goal.returns-in-Other
unfolding time_in
returns-in-Other c = rw c.in-Other.is
