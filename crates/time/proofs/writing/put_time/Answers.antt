-- `time::writing::put_time` meets its contract: the array is the definition's own list.
use Rattle.time.specs.Writing.{time_text, digit}
use Rattle.time.proofs.writing.put_time.Goals as goal

pub returns : goal.returns
unfolding time_text digit
returns c = c.put_bytes.ensures
