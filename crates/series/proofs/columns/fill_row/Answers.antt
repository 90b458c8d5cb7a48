-- `series::columns::fill_row` meets its contract: from what is no event nothing is taken away.
use mathlib.Core.Path.{sym, ◌∙◌}
use Rattle.series.proofs.ColumnsLaws.{row_other, row_event}
use Rattle.series.proofs.columns.fill_row.Goals as goal

pub returns-then-kind_at-ne1 : goal.returns-then-kind_at-ne1
returns-then-kind_at-ne1 c = row_other c.requires.row_fillable c.kind_at.ensures _ c.if-kind_at-ne1.true

pub removed_in_order-requires : goal.removed_in_order-requires
removed_in_order-requires c =
    let kind_at_told = c.kind_at in
    let event = sym kind_at_told.ensures ∙ c.if-kind_at-ne1.false in
    record {
      takeable = c.requires.row_fillable.takeable event;
      m_in_bounds = c.requires.row_fillable.fits event;
      out_in_bounds = c.requires.out_in_bounds;
    }

pub returns : goal.returns
returns c =
    let kind_at_told = c.kind_at in
    let first_if = c.if-kind_at-ne1 in
    let removed_in_order_told = c.removed_in_order in
    row_event c.requires.row_fillable kind_at_told.ensures first_if.false removed_in_order_told.ensures
