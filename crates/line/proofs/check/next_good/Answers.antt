-- `line::check::next_good` meets its contract: the first control ends the line or makes it badly formed, and a line without one is tested.
use Rattle.line.proofs.WellFormed.{next_line, next_badly}
use Rattle.line.proofs.WellFormedControls.{next_past, control_bad, control_line, part_clear}
use mathlib.Core.Path.{sym, ◌∙◌}
use Rattle.line.proofs.check.next_good.Goals as goal

pub returns-then-s-from : goal.returns-then-s-from
returns-then-s-from c = next_past _ _ c.if-s-from.true

pub returns-then-not-break_at : goal.returns-then-not-break_at
returns-then-not-break_at c = control_bad c.if-s-from.false c.next_control-e.ensures (sym c.break_at.ensures ∙ c.if-not-break_at.true)

pub clear_name-requires : goal.clear_name-requires
clear_name-requires c = part_clear c.next_control-e.ensures.before

pub returns-in-Some : goal.returns-in-Some
returns-in-Some c =
    let control = c.next_control-e.ensures in
    let breaks = sym c.break_at.ensures ∙ c.if-not-break_at.false in
    next_line _ _ (control_line control breaks) (sym c.in-Some.is ∙ c.clear_name.ensures)

pub returns-in-None : goal.returns-in-None
returns-in-None c =
    let control = c.next_control-e.ensures in
    let breaks = sym c.break_at.ensures ∙ c.if-not-break_at.false in
    next_badly _ (control_line control breaks) (sym c.in-None.is ∙ c.clear_name.ensures)
