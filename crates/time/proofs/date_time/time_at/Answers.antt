-- `time::date_time::time_at` meets its contract: the three pairs of digits are the numbers that the time is made of.
use Rattle.time.specs.DateTime.{time_at}
use Rattle.time.proofs.date_time.time_at.Goals as goal

pub returns : goal.returns
unfolding time_at
returns c = simp (c.time_of.ensures, c.pair_at.ensures, c.pair_at-2.ensures, c.pair_at-3.ensures)
