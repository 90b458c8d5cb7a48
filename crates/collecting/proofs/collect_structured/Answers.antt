-- `collecting::collect_structured` meets its contract: what was read of the structure is refusal 6 or 7, or the rows by which the contents are read.
use Rattle.contents.proofs.Contents.{structure_known}
use Rattle.collecting.proofs.CollectStages.{structure_refuses, structure_passes}
use Rattle.collecting.proofs.collect_structured.Goals as goal

pub collect_contents-requires : goal.collect_contents-requires
collect_contents-requires c =
    record {
      spans_len = c.requires.spans_len;
      s_len_bound = c.requires.s_len_bound;
      context_good = c.requires.context_good;
      file_rows = structure_known c.requires.structure_read c.structure_fault.ensures c.in_ok-structure_fault.was;
      start_lt_end = c.requires.start_lt_end;
    }

pub returns-in_err-structure_fault : goal.returns-in_err-structure_fault
returns-in_err-structure_fault c = structure_refuses c.requires.structure_read c.structure_fault.ensures _ _ _ c.in_err-structure_fault.was c.from_residual.ensures.1

pub returns : goal.returns
returns c = structure_passes c.requires.structure_read c.structure_fault.ensures _ _ _ c.in_ok-structure_fault.was c.collect_contents.ensures
