-- `line::read::is_named` meets its contract: it compares what stands before the equals sign with the name.
use Rattle.ascii.specs.Names.{same_name}
use mathlib.Core.List.{List}
use Prim.Native.Nat.{ℕ}
use Rattle.line.specs.Reading.{is_named}
use mathlib.Core.Path.{ap, ◌∙◌}
use Rattle.line.proofs.read.is_named.Goals as goal

pub returns : goal.returns
unfolding is_named
returns c = c.same_name.ensures ∙ ap (λ (m : List ℕ). same_name m c.args.name.now) c.parameter_name.ensures
