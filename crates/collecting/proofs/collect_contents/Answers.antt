-- `collecting::collect_contents` meets its contract: each memory has room for an exception in every eight bytes of its calendars.
use native.Mathlib.Omega.{arith}
use Rattle.collecting.proofs.collect_contents.Goals as goal

pub collect_excepted-requires : goal.collect_excepted-requires
collect_excepted-requires c =
    record {
      spans_len = c.requires.spans_len;
      s_len_bound = (omega (arith, c.if-cal-le8192.true), omega arith);
      context_good = c.requires.context_good;
      file_rows = c.requires.file_rows;
      start_lt_end = c.requires.start_lt_end;
    }

pub collect_excepted-requires-2 : goal.collect_excepted-requires-2
collect_excepted-requires-2 c =
    record {
      spans_len = c.requires.spans_len;
      s_len_bound = (omega (arith, c.requires.s_len_bound), omega arith);
      context_good = c.requires.context_good;
      file_rows = c.requires.file_rows;
      start_lt_end = c.requires.start_lt_end;
    }
