-- `property::type_is_bad` meets its contract: one count of FBTYPE tells whether it stands badly.
use mathlib.Core.Path.{sym}
use Rattle.line.proofs.ReadingParameters.{used_badly}
use Rattle.property.proofs.type_is_bad.Goals as goal

pub returns : goal.returns
returns c = sym (used_badly _ _ _ c.usage_of-u.ensures)
