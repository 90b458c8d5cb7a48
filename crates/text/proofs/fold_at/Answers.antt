-- `text::fold_at` meets its contract: a fold begins with CR and has three bytes, and then the last two decide.
use borrow.Author.Tests.{eq-eqb}
use Rattle.text.specs.Unfolding.{is_break, is_fold, is_blank, fold_at}
use Rattle.text.proofs.Unfolding.{no_fold_other, no_fold_short}
use mathlib.Core.Path.{sym}
use native.Mathlib.Omega.{arith}
use Rattle.text.proofs.fold_at.Goals as goal

pub returns-then-s-i-ne13 : goal.returns-then-s-i-ne13
returns-then-s-i-ne13 c = sym (no_fold_other _ _ c.if-s-i-ne13.true)

pub returns-then-s-i-lt3 : goal.returns-then-s-i-lt3
returns-then-s-i-lt3 c = sym (no_fold_short _ _ (omega arith))

pub returns : goal.returns
unfolding fold_at is_fold is_break is_blank
returns c = rw (eq-eqb _ _ c.if-s-i-ne13.false)
