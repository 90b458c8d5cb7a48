-- `ascii::is_digit` meets its contract: the library's test is the definition.
use Rattle.ascii.specs.Bytes.{is_digit}
use Rattle.ascii.proofs.is_digit.Goals as goal

pub returns : goal.returns
unfolding is_digit
returns c = c.is_ascii_digit.ensures.value
