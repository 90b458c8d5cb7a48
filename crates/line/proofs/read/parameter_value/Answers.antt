-- `line::read::parameter_value` meets its contract: the value is a piece behind the equals sign, its quotes taken off.
use mathlib.Core.Bool.{true, false}
use Rattle.line.proofs.ReadingParameters.{values_of_at}
use Rattle.line.specs.Splitting.{split_parts, quotes_off}
use lib.ListN.{get_or}
use mathlib.Core.List.{[], List}
use Prim.Native.Nat.{ℕ}
use mathlib.Core.Path.{ap, ◌∙◌}
use Rattle.line.proofs.read.parameter_value.Goals as goal

pub returns : goal.returns
returns c =
    let number = c.args.n in
    let behind = c.after.ensures in
    let part = c.nth_part.ensures in
    let unquoted = c.quotes_off.ensures in
    unquoted ∙ ap quotes_off (part ∙ ap (λ (t : List ℕ). get_or (split_parts true 44 false t) number []) behind) ∙ values_of_at _ _
