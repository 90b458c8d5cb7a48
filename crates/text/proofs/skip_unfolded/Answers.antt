-- `text::skip_unfolded` meets its contract: no fold begins in the sixteen places that each turn passes.
use Rattle.text.proofs.Unfolding.{nowhere_start, nowhere_all}
use Rattle.text.proofs.skip_unfolded.Goals as goal

pub loop-i-init : goal.loop-i-init
loop-i-init c = nowhere_start _ _ _ c.requires

pub returns-then-fold_near : goal.returns-then-fold_near
returns-then-fold_near c = c.loop-i.invariant

pub loop-i-preserved : goal.loop-i-preserved
loop-i-preserved c = nowhere_all c.loop-i.invariant c.fold_near.ensures c.if-fold_near.false

pub returns : goal.returns
returns c = c.loop-i.invariant
