-- `collecting::collect_long` meets its contract: the structure is found with this index, or the longest one is asked.
use Rattle.structure.proofs.Reading.{found_structure}
use Rattle.collecting.proofs.collect_long.Goals as goal

pub collect_structured-requires : goal.collect_structured-requires
collect_structured-requires c =
    let find_structure = c.find_structure.ensures in
    let found_told = c.in-Some.is in
    record {
      spans_len = c.requires.spans_len;
      s_len_bound = c.requires.s_len_bound;
      structure_read = found_structure _ _ _ find_structure found_told;
      context_good = c.requires.context_good;
      start_lt_end = c.requires.start_lt_end;
    }
