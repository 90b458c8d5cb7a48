-- `ascii::is_control` meets its contract: the body is the definition.
use Rattle.ascii.specs.Bytes.{is_control}
use mathlib.Core.Path.{refl}
use Rattle.ascii.proofs.is_control.Goals as goal

pub returns : goal.returns
unfolding is_control
returns c = refl
