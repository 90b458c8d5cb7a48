-- `engine::matching::match_contents` meets its contract: each memory has room for an exception in every eight bytes of its calendars.
use native.Mathlib.Omega.{arith}
use Rattle.engine.proofs.matching.match_contents.Goals as goal

pub match_excepted-requires : goal.match_excepted-requires
match_excepted-requires c =
    record {
      s_len_bound = (omega (arith, c.if-cal-le8192.true), omega arith);
      file_rows = c.requires.file_rows;
      q_value = c.requires.q_value;
      context_good = c.requires.context_good;
    }

pub match_excepted-requires-2 : goal.match_excepted-requires-2
match_excepted-requires-2 c =
    record {
      s_len_bound = (omega (arith, c.requires.s_len_bound), omega arith);
      file_rows = c.requires.file_rows;
      q_value = c.requires.q_value;
      context_good = c.requires.context_good;
    }
