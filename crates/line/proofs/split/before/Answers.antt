-- `line::split::before` meets its contract: the bytes up to the place found.
use Rattle.line.proofs.Splitting.{before_fits, before_is}
use lib.ListN.{take}
use Prim.Native.Nat.{ℕ}
use mathlib.Core.Path.{ap, ◌∙◌}
use Rattle.line.proofs.split.before.Goals as goal

pub slice_bounds-result-end : goal.slice_bounds-result-end
slice_bounds-result-end c = before_fits _ _ _ _ c.find-e.ensures

pub returns : goal.returns
returns c = ap (λ (n : ℕ). take n c.args.s.now) c.find-e.ensures ∙ before_is _ _ _
