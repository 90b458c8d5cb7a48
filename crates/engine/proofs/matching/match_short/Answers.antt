-- `engine::matching::match_short` meets its contract: the index is long enough for a calendar of 8192 bytes.
use native.Mathlib.Omega.{arith}
use Rattle.engine.proofs.matching.match_short.Goals as goal

pub match_indexed-requires : goal.match_indexed-requires
match_indexed-requires c =
    record {
      s_len_bound = omega (arith, c.requires.s_len_bound);
      s_len_bound_2 = omega (arith, c.requires.s_len_bound);
      q_value = c.requires.q_value;
      context_good = c.requires.context_good;
    }
