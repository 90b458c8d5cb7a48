-- `overrides::same_kind` meets its contract: kinds are equal where their numbers are.
use mathlib.Core.Path.{◌∙◌}
use Rattle.overrides.proofs.Keeping.{kinds_equal}
use Rattle.overrides.proofs.same_kind.Goals as goal

pub returns : goal.returns
returns c = c.eq.ensures ∙ kinds_equal _ _
