-- `time::writing::put_date` meets its contract: the array is the definition's own list.
use Rattle.time.specs.Writing.{date_text, digit}
use Rattle.time.proofs.writing.put_date.Goals as goal

pub returns : goal.returns
unfolding date_text digit
returns c = c.put_bytes.ensures
