-- `event_pieces::store_few` meets its contract: its memory is long enough for a short calendar.
use native.Mathlib.Omega.{arith}
use Rattle.event_pieces.proofs.store_few.Goals as goal

pub store_left-requires : goal.store_left-requires
store_left-requires c =
    record {
      room = c.requires.room;
      first_bound = c.requires.first_bound;
      places_len = (omega arith, omega (arith, c.requires.exceptions_len_bound), omega arith, omega arith);
      file_rows = c.requires.file_rows;
      entry_rows = c.requires.entry_rows;
      removable = c.requires.removable;
      a_lt_b = c.requires.a_lt_b;
    }
