-- `series::passes::rule_fault` meets its contract: the fingerprints are filled in, and then the rows are asked.
use Rattle.structure.proofs.RowsLaws.{file_next}
use Rattle.series.proofs.PassLaws.{linked_at}
use native.Mathlib.Omega.{arith}
use Rattle.series.proofs.passes.rule_fault.Goals as goal

pub next_row-m-requires : goal.next_row-m-requires
next_row-m-requires c = (file_next c.requires.file_rows).row.room

pub fill_prints-requires : goal.fill_prints-requires
fill_prints-requires c =
    let next_row_told = c.next_row-m in
    record {
      tied = (linked_at c.requires.context_good c.requires.file_rows c.requires.link_rows next_row_told.ensures).tied;
      prints_len = (omega arith, omega arith, omega arith);
    }

pub first_fault-requires : goal.first_fault-requires
first_fault-requires c =
    let next_row_told = c.next_row-m in
    let fill_prints_told = c.fill_prints in
    record {
      file_rows = c.requires.file_rows;
      m_value = next_row_told.ensures;
      linked = linked_at c.requires.context_good c.requires.file_rows c.requires.link_rows next_row_told.ensures;
      printed = fill_prints_told.ensures;
      alone_value = c.requires.alone_value;
    }

pub returns : goal.returns
returns c = c.first_fault.ensures
