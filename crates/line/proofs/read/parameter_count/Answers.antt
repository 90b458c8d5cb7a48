-- `line::read::parameter_count` meets its contract: the first piece of the head is the name, and each piece more is a parameter.
use mathlib.Core.Bool.{true, false}
use Rattle.line.proofs.Splitting.{parts_some}
use Rattle.line.proofs.ReadingParameters.{parameter_texts_count}
use Rattle.line.specs.Splitting.{split_parts}
use lib.ListN.{length}
use mathlib.Core.List.{List}
use Prim.Native.Nat.{ℕ, ◌-◌}
use mathlib.Core.Path.{ap, ◌∙◌}
use native.Mathlib.Omega.{arith}
use Rattle.line.proofs.read.parameter_count.Goals as goal

pub overflow_sub-result : goal.overflow_sub-result
overflow_sub-result c = omega (arith, c.part_count.ensures, parts_some true 59 false c.head.result.now)

pub returns : goal.returns
returns c = ap (λ (k : ℕ). k - 1) (c.part_count.ensures ∙ ap (λ (h : List ℕ). length (split_parts true 59 false h)) c.head.ensures) ∙ parameter_texts_count _
