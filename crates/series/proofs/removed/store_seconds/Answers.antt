-- `series::removed::store_seconds` meets its contract: the copy is one store behind the other.
use Rattle.std.proofs.Common.{arith}
use Rattle.std.proofs.lemmas.Grind.{common_steps}
use Rattle.std.proofs.lemmas.List.Edits.{sets-eq}
use Rattle.series.proofs.removed.store_seconds.Goals as goal

pub returns : goal.returns
returns c = grind (arith, common_steps, sets-eq c.args.l.now c.args.out.now 0, c.copy_over.ensures.after)
