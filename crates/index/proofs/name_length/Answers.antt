-- `index::name_length` meets its contract: it is taken out of the entry as the definition does.
use mathlib.Core.Path.{refl}
use Rattle.index.proofs.Index.{name_read}
use Rattle.index.proofs.name_length.Goals as goal

pub returns : goal.returns
returns c = name_read c.args.index.now _ refl
