-- `event_pieces::store_instances` meets its contract: where nothing is taken away, places that are all 0 serve.
use Rattle.series.proofs.ColumnsLaws.{removable_at, removed_at_lem, nothing_removed}
use native.Mathlib.Omega.{arith}
use Rattle.event_pieces.proofs.store_instances.Goals as goal

pub next_row-m-requires : goal.next_row-m-requires
next_row-m-requires c = omega (arith, c.requires.removable.row_room, c.requires.file_rows.some)

pub is_nothing_taken-requires : goal.is_nothing_taken-requires
is_nothing_taken-requires c =
    let h = removable_at c.next_row-m.ensures c.requires.removable in
    (h.row_room, h.link_room)

pub store_events-requires : goal.store_events-requires
store_events-requires c =
    let next_row_told = c.next_row-m in
    let is_nothing_taken_told = c.is_nothing_taken in
    let first_if = c.if-is_nothing_taken in
    let h = removable_at next_row_told.ensures c.requires.removable in
    record {
      room = c.requires.room;
      first_bound = c.requires.first_bound;
      file_rows = c.requires.file_rows;
      entry_rows = c.requires.entry_rows;
      removed_rows = removed_at_lem next_row_told.ensures (nothing_removed h (is_nothing_taken_told.ensures first_if.true) _);
      a_lt_b = c.requires.a_lt_b;
    }

pub store_few-requires : goal.store_few-requires
store_few-requires c =
    record {
      room = c.requires.room;
      first_bound = c.requires.first_bound;
      exceptions_len_bound = c.if-events-le1025.true;
      file_rows = c.requires.file_rows;
      entry_rows = c.requires.entry_rows;
      removable = c.requires.removable;
      a_lt_b = c.requires.a_lt_b;
    }
