-- `text::next_fold` meets its contract: no fold begins before the place that the loop has come to.
use Rattle.text.proofs.Unfolding.{nowhere_next, fold_found, fold_none}
use mathlib.Core.Path.{sym, ◌∙◌}
use native.Mathlib.Omega.{arith}
use Rattle.text.proofs.next_fold.Goals as goal

pub loop-i-init : goal.loop-i-init
loop-i-init c = c.skip_unfolded-i.ensures

pub returns-then-fold_at : goal.returns-then-fold_at
returns-then-fold_at c = fold_found c.loop-i.invariant (sym c.fold_at.ensures ∙ c.if-fold_at.true)

pub loop-i-preserved : goal.loop-i-preserved
loop-i-preserved c = nowhere_next c.loop-i.invariant (omega arith) (sym c.fold_at.ensures ∙ c.if-fold_at.false)

pub returns : goal.returns
returns c = fold_none c.loop-i.invariant (omega arith)
