-- `event_pieces::store_left` meets its contract: the columns are filled, and then the events are stored by them.
use Rattle.series.proofs.ColumnsLaws.{removable_at, removed_at_lem}
use native.Mathlib.Omega.{arith}
use Rattle.event_pieces.proofs.store_left.Goals as goal

pub next_row-m-requires : goal.next_row-m-requires
next_row-m-requires c =
    omega (arith, c.requires.removable.row_room, c.requires.file_rows.some)

pub fill_removed-requires : goal.fill_removed-requires
fill_removed-requires c =
    record {
      removable = removable_at c.next_row-m.ensures c.requires.removable;
      places_len = c.requires.places_len.0;
      exceptions_in_bounds = c.requires.places_len.1;
      removed_len_bound = c.requires.places_len.2;
      removed_in_bounds = c.requires.places_len.3;
    }

pub store_events-requires : goal.store_events-requires
store_events-requires c =
    let next_row_told = c.next_row-m in
    let fill_removed_told = c.fill_removed in
    record {
      room = c.requires.room;
      first_bound = c.requires.first_bound;
      file_rows = c.requires.file_rows;
      entry_rows = c.requires.entry_rows;
      removed_rows = removed_at_lem next_row_told.ensures fill_removed_told.ensures;
      a_lt_b = c.requires.a_lt_b;
    }
