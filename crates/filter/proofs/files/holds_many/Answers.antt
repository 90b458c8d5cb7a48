-- `filter::files::holds_many` meets its contract: its memory is long enough for any calendar.
use native.Mathlib.Omega.{arith}
use Rattle.filter.proofs.files.holds_many.Goals as goal

pub holds_left-requires : goal.holds_left-requires
holds_left-requires c =
    record {
      q_value = c.requires.q_value;
      context_good = c.requires.context_good;
      file_rows = c.requires.file_rows;
      entry_rows = c.requires.entry_rows;
      removable = c.requires.removable;
      places_len = (omega arith, omega (arith, c.requires.exceptions_len_bound), omega arith, omega arith);
    }
