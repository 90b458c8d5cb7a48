-- `text::fold_near` meets its contract: where no test so far has held, a fold begins at none of the places tested.
use Rattle.text.specs.Unfolding.{fold_at, is_fold, is_break, is_blank}
use Rattle.text.proofs.Unfolding.{tested_start, tested_next, tested_end}
use native.Mathlib.Omega.{arith}
use Rattle.text.proofs.fold_near.Goals as goal

pub loop-k-init : goal.loop-k-init
loop-k-init c = tested_start _ _ _ _ (omega arith)

pub loop-k-preserved : goal.loop-k-preserved
unfolding fold_at is_fold is_break is_blank
loop-k-preserved c = tested_next c.loop-k.invariant c.loop-k-test.true (omega arith)

pub returns : goal.returns
returns c = tested_end c.loop-k.invariant c.loop-k-test.false
