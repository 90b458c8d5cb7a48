-- `time::date_time::pair_at` meets its contract: the two bytes at the place are the definition's.
use Rattle.time.specs.DateTime.{pair_at}
use Rattle.time.proofs.date_time.pair_at.Goals as goal

pub returns : goal.returns
unfolding pair_at
returns c = c.digit_pair.ensures
