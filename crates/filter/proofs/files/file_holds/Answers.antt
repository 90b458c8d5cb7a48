-- `filter::files::file_holds` meets its contract: where nothing is taken away, places that are all 0 serve.
use Rattle.series.proofs.ColumnsLaws.{removable_at, removed_at_lem, nothing_removed}
use native.Mathlib.Omega.{arith}
use Rattle.filter.proofs.files.file_holds.Goals as goal

pub next_row-m-requires : goal.next_row-m-requires
next_row-m-requires c = omega (arith, c.requires.removable.row_room, c.requires.file_rows.some)

pub is_nothing_taken-requires : goal.is_nothing_taken-requires
is_nothing_taken-requires c =
    let h = removable_at c.next_row-m.ensures c.requires.removable in
    (h.row_room, h.link_room)

pub query_holds-requires : goal.query_holds-requires
query_holds-requires c =
    let h = removable_at c.next_row-m.ensures c.requires.removable in
    record {
      q_value = c.requires.q_value;
      context_good = c.requires.context_good;
      file_rows = c.requires.file_rows;
      entry_rows = c.requires.entry_rows;
      removed_rows = removed_at_lem c.next_row-m.ensures (nothing_removed h (c.is_nothing_taken.ensures c.if-is_nothing_taken.true) _);
    }

pub holds_few-requires : goal.holds_few-requires
holds_few-requires c =
    record {
      q_value = c.requires.q_value;
      context_good = c.requires.context_good;
      file_rows = c.requires.file_rows;
      entry_rows = c.requires.entry_rows;
      removable = c.requires.removable;
      exceptions_len_bound = c.if-events-le1025.true;
    }
