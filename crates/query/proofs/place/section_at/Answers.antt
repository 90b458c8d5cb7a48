-- `query::place::section_at` meets its contract: the count is the byte that was read.
use Prim.Native.Nat.{ℕ, ◌+◌}
use Rattle.query.proofs.SectionsLaws.{section}
use mathlib.Core.Path.{ap}
use Rattle.query.proofs.place.section_at.Goals as goal

pub returns : goal.returns
returns c = ap (λ (n : ℕ). section n (c.args.at + 1)) c.byte_at.ensures.is
