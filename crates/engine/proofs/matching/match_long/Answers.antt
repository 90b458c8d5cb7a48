-- `engine::matching::match_long` meets its contract: the structure is found with this index, or the longest one is asked.
use Rattle.structure.proofs.Reading.{found_structure}
use Rattle.engine.proofs.matching.match_long.Goals as goal

pub match_structured-requires : goal.match_structured-requires
match_structured-requires c =
    let find_structure = c.find_structure.ensures in
    let found_told = c.in-Some.is in
    record {
      s_len_bound = c.requires.s_len_bound;
      structure_read = found_structure _ _ _ find_structure found_told;
      q_value = c.requires.q_value;
      context_good = c.requires.context_good;
    }
