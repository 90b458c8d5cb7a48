-- `series::passes::row_breaks` meets its contract: what is no event is passed over.
use mathlib.Core.Path.{sym, ◌∙◌}
use Rattle.series.proofs.PassLaws.{row_passed, row_asked, reached_unbroken}
use Rattle.series.proofs.passes.row_breaks.Goals as goal

pub kind_at-requires : goal.kind_at-requires
kind_at-requires c = c.requires.reached.row.room

pub returns-then-kind_at-ne1 : goal.returns-then-kind_at-ne1
returns-then-kind_at-ne1 c = row_passed _ c.requires.reached.row _ _ c.kind_at.ensures c.if-kind_at-ne1.true

pub breaks_beside-requires : goal.breaks_beside-requires
breaks_beside-requires c =
    record {
      printed = c.requires.printed;
      linked = c.requires.linked;
      unbroken = reached_unbroken c.requires.linked c.requires.reached c.kind_at.ensures c.if-kind_at-ne1.false;
    }

pub returns : goal.returns
returns c = row_asked _ c.requires.reached.row _ _ (sym c.kind_at.ensures ∙ c.if-kind_at-ne1.false) c.breaks_beside.ensures
