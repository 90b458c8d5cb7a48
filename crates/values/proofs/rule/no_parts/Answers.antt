-- `values::rule::no_parts` meets its contract: it is the definition.
use Rattle.values.specs.Rule.{no_parts}
use mathlib.Core.Path.{refl}
use Rattle.values.proofs.rule.no_parts.Goals as goal

pub returns : goal.returns
unfolding no_parts
returns c = refl
