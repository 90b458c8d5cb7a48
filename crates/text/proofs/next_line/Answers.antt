-- `text::next_line` meets its contract: no CR LF begins in the bytes passed, so they belong to the first piece of what is cut from there.
use Rattle.text.proofs.Unfolding.{nowhere_next}
use Rattle.text.proofs.Lines.{searched_found, searched_end, searched_none, steps_at, steps_last, steps_none}
use mathlib.Core.Path.{sym, ◌∙◌}
use native.Mathlib.Omega.{arith}
use Rattle.text.proofs.next_line.Goals as goal

pub returns-then-s-from : goal.returns-then-s-from
returns-then-s-from c = steps_none (searched_none _ _ c.if-s-from.true)

pub loop-i-init : goal.loop-i-init
loop-i-init c = (omega arith, c.skip_unbroken-i.ensures)

pub returns-then-break_at : goal.returns-then-break_at
returns-then-break_at c = steps_at (searched_found c.loop-i.invariant.1 (sym c.break_at.ensures ∙ c.if-break_at.true))

pub loop-i-preserved : goal.loop-i-preserved
loop-i-preserved c = (c.loop-i.invariant.0, nowhere_next c.loop-i.invariant.1 (omega arith) (sym c.break_at.ensures ∙ c.if-break_at.false))

pub returns : goal.returns
returns c = steps_last (searched_end c.if-s-from.false c.loop-i.invariant.1 (omega arith))
