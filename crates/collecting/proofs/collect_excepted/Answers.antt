-- `collecting::collect_excepted` meets its contract: the memory is as long as the stage asks.
use native.Mathlib.Omega.{arith}
use Rattle.collecting.proofs.collect_excepted.Goals as goal

pub collect_stored-requires : goal.collect_stored-requires
collect_stored-requires c =
    record {
      spans_len = c.requires.spans_len;
      room = omega arith;
      entries_len = omega arith;
      links_len = omega arith;
      s_len_bound = c.requires.s_len_bound;
      context_good = c.requires.context_good;
      file_rows = c.requires.file_rows;
      start_lt_end = c.requires.start_lt_end;
    }
