-- `collecting::collect_indexed` meets its contract: the index has room, so the structure is read.
use Rattle.collecting.proofs.collect_indexed.Goals as goal

pub collect_structured-requires : goal.collect_structured-requires
collect_structured-requires c =
    record {
      spans_len = c.requires.spans_len;
      s_len_bound = c.requires.s_len_bound_2;
      structure_read = c.read_structure-structure.ensures;
      context_good = c.requires.context_good;
      start_lt_end = c.requires.start_lt_end;
    }
