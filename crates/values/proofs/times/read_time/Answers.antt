-- `values::times::read_time` meets its contract: each arm is the definition's clause, at what the callees answer.
use Rattle.values.specs.Times.{read_time}
use Rattle.values.proofs.times.read_time.Goals as goal

pub returns-in-DateTime : goal.returns-in-DateTime
unfolding read_time
returns-in-DateTime c = simp (c.time_by.ensures, c.read_date_time.ensures, c.in-DateTime.is)

pub returns-in-Date : goal.returns-in-Date
unfolding read_time
returns-in-Date c = simp (c.time_by-in-Date.ensures, c.read_date.ensures, c.in-Date.is)

pub returns-in-Wrong : goal.returns-in-Wrong
unfolding read_time
returns-in-Wrong c = rw c.in-Wrong.is
