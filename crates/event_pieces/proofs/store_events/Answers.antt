-- `event_pieces::store_events` meets its contract: the pieces of the rows before k are stored, and with those from k on they make the whole.
use Rattle.structure.proofs.RowsLaws.{file_next}
use Rattle.event_pieces.proofs.Removed.{events_start, next_event, event_known, events_more, events_end}
use native.Mathlib.Omega.{arith}
use Rattle.event_pieces.proofs.store_events.Goals as goal

pub next_row-m-requires : goal.next_row-m-requires
next_row-m-requires c = (file_next c.requires.file_rows).row.room

pub loop-k-init : goal.loop-k-init
loop-k-init c = λ x h z. events_start x _ _ c.requires.file_rows c.requires.room c.requires.first_bound c.next_row-m.ensures

pub store_row-n-requires : goal.store_row-n-requires
store_row-n-requires c =
    record {
      room = (c.loop-k.invariant c.args.c c.requires.entry_rows c.requires.removed_rows).still.long;
      n_bound = (c.loop-k.invariant c.args.c c.requires.entry_rows c.requires.removed_rows).still.few;
      row_known = event_known (c.loop-k.invariant c.args.c c.requires.entry_rows c.requires.removed_rows) c.requires.entry_rows c.requires.removed_rows c.next_row-m.ensures c.loop-k-test.true;
      a_lt_b = c.requires.a_lt_b;
    }

pub next_row-k-requires : goal.next_row-k-requires
next_row-k-requires c = (next_event (c.loop-k.invariant c.args.c c.requires.entry_rows c.requires.removed_rows) c.loop-k-test.true).here.row.room

pub loop-k-smaller : goal.loop-k-smaller
loop-k-smaller c = let z = (next_event (c.loop-k.invariant c.args.c c.requires.entry_rows c.requires.removed_rows) c.loop-k-test.true).here in omega (arith, z.onward, z.within, c.next_row-k.ensures)

pub loop-k-preserved : goal.loop-k-preserved
loop-k-preserved c =
    let next_row_told = c.next_row-m in
    let turn = c.loop-k in
    let test = c.loop-k-test in
    let store_row_told = c.store_row-n in
    λ x h z. events_more (turn.invariant x h z) h z next_row_told.ensures test.true store_row_told.ensures c.next_row-k.ensures

pub shape_of-column : goal.shape_of-column
shape_of-column c = omega (arith, (c.loop-k.invariant c.args.c c.requires.entry_rows c.requires.removed_rows).still.long, c.requires.room)

pub returns : goal.returns
returns c = events_end (c.loop-k.invariant c.args.c c.requires.entry_rows c.requires.removed_rows) c.requires.file_rows c.next_row-m.ensures c.loop-k-test.false
