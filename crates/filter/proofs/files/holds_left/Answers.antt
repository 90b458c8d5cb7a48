-- `filter::files::holds_left` meets its contract: the columns are filled, and the query is asked by them.
use Rattle.series.proofs.ColumnsLaws.{removable_at, removed_at_lem}
use native.Mathlib.Omega.{arith}
use Rattle.filter.proofs.files.holds_left.Goals as goal

pub next_row-m-requires : goal.next_row-m-requires
next_row-m-requires c =
    omega (arith, c.requires.removable.row_room, c.requires.file_rows.some)

pub fill_removed-requires : goal.fill_removed-requires
fill_removed-requires c =
    record {
      removable = removable_at c.next_row-m.ensures c.requires.removable;
      places_len = c.requires.places_len.0;
      exceptions_in_bounds = c.requires.places_len.1;
      removed_len_bound = c.requires.places_len.2;
      removed_in_bounds = c.requires.places_len.3;
    }

pub query_holds-requires : goal.query_holds-requires
query_holds-requires c =
    let next_row_told = c.next_row-m in
    let fill_removed_told = c.fill_removed in
    record {
      q_value = c.requires.q_value;
      context_good = c.requires.context_good;
      file_rows = c.requires.file_rows;
      entry_rows = c.requires.entry_rows;
      removed_rows = removed_at_lem next_row_told.ensures fill_removed_told.ensures;
    }
