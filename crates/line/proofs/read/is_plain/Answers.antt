-- `line::read::is_plain` meets its contract: behind the name the line ends, or the byte there is looked at.
use mathlib.Core.Path.{refl}
use native.Mathlib.Omega.{arith}
use Rattle.line.specs.Reading.{is_plain_at}
use Rattle.line.proofs.Reading.{plain_past}
use Rattle.line.proofs.read.is_plain.Goals as goal

pub returns-then-line-n : goal.returns-then-line-n
returns-then-line-n c = plain_past c.args.line.now c.args.n (omega (arith, c.if-line-n.true))

pub returns : goal.returns
unfolding is_plain_at
returns c = refl
