-- `query_check::flag_good` meets its contract: the tests are those of the definition.
use mathlib.Core.Path.{refl}
use Rattle.query_check.proofs.flag_good.Goals as goal

pub returns : goal.returns
returns c = refl
