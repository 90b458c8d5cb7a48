-- `ascii::is_letter` meets its contract: the library's test is the definition.
use Rattle.ascii.specs.Bytes.{is_letter}
use Rattle.ascii.proofs.is_letter.Goals as goal

pub returns : goal.returns
unfolding is_letter
returns c = c.is_ascii_alphabetic.ensures.value
