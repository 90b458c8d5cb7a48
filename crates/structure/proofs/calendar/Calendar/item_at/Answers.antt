-- `structure::calendar::Calendar::item_at` meets its contract: each branch is one case of the definition.
use Rattle.structure.proofs.ItemsLaws.{item_done, item_inner, item_other, item_last}
use mathlib.Core.Path.{sym, ◌∙◌}
use Rattle.structure.proofs.calendar.Calendar.item_at.Goals as goal

pub returns-then-j-i : goal.returns-then-j-i
returns-then-j-i c = item_done _ _ _ _ _ c.if-j-i.true

pub returns-then-first_line-i : goal.returns-then-first_line-i
returns-then-first_line-i c =
    let inside = c.if-j-i.false in
    let row_left = c.if-k-m.true in
    let first = sym c.first_line.ensures ∙ c.if-first_line-i.true in
    let behind = c.line_behind.ensures in
    let next = c.next_row.ensures in
    item_inner _ _ _ _ _ inside row_left _ _ first behind next

pub returns-else-first_line-i : goal.returns-else-first_line-i
returns-else-first_line-i c = item_other _ _ _ _ _ c.if-j-i.false (λ e. c.if-first_line-i.false (c.first_line.ensures ∙ e))

pub returns-else-k-m : goal.returns-else-k-m
returns-else-k-m c = item_last _ _ _ _ _ c.if-j-i.false c.if-k-m.false
