-- `ascii::is_name_byte` meets its contract: each leaf is a part of the definition, and A to Z goes first.
use Rattle.ascii.specs.Bytes.{is_letter, is_name_byte}
use Rattle.ascii.proofs.is_name_byte.Goals as goal

pub returns-then-b : goal.returns-then-b
unfolding is_name_byte is_letter
returns-then-b c = rw c.if-b.true

pub returns : goal.returns
unfolding is_name_byte
returns c = simp (c.is_letter.ensures, c.is_digit.ensures)
