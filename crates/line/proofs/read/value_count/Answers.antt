-- `line::read::value_count` meets its contract: the values are the pieces behind the equals sign, cut at each comma.
use mathlib.Core.Bool.{true, false}
use Rattle.line.proofs.ReadingParameters.{values_of_count}
use Rattle.line.specs.Splitting.{split_parts}
use lib.ListN.{length}
use mathlib.Core.List.{List}
use Prim.Native.Nat.{ℕ}
use mathlib.Core.Path.{ap, ◌∙◌}
use Rattle.line.proofs.read.value_count.Goals as goal

pub returns : goal.returns
returns c = c.part_count.ensures ∙ ap (λ (t : List ℕ). length (split_parts true 44 false t)) c.after.ensures ∙ values_of_count _
