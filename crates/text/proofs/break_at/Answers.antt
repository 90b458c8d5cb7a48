-- `text::break_at` meets its contract: CR LF begins with CR, and then the next byte decides.
use borrow.Author.Tests.{eq-eqb}
use Rattle.text.specs.Lines.{break_at}
use Rattle.text.specs.Unfolding.{is_break}
use Rattle.text.proofs.Lines.{no_break_other}
use mathlib.Core.Path.{sym}
use Rattle.text.proofs.break_at.Goals as goal

pub returns-then-s-i-ne13 : goal.returns-then-s-i-ne13
returns-then-s-i-ne13 c = sym (no_break_other _ _ c.if-s-i-ne13.true)

pub returns : goal.returns
unfolding break_at is_break
returns c = rw (eq-eqb _ _ c.if-s-i-ne13.false)
