-- `filter::components::query_holds` meets its contract: what stands outside every component are the rows up to that of row 0's next, and a good query has a component record 0.
use Rattle.filter.proofs.Tests.{first_record, query_as}
use Rattle.filter.proofs.RangesLaws.{file_room, file_given, file_among}
use Rattle.filter.proofs.components.query_holds.Goals as goal

pub next_row-end-requires : goal.next_row-end-requires
next_row-end-requires c = file_room c.requires.file_rows

pub component_holds-requires : goal.component_holds-requires
component_holds-requires c =
    record {
      q_value = c.requires.q_value;
      j_lt_count = first_record c.args.q.now.fits;
      context_good = c.requires.context_good;
      given = file_given c.requires.file_rows c.requires.entry_rows;
      removed_rows = c.requires.removed_rows;
      among = file_among c.requires.file_rows c.next_row-end.ensures;
    }

pub returns : goal.returns
returns c = query_as c.requires.file_rows _ _ _ c.next_row-end.ensures c.component_holds.ensures
