-- `structure::find_structure` meets its contract: a badly formed line is told first, else the nesting decides; an index that is full has room for too few bytes.
use Rattle.std.specs.Prelude.{Err}
use mathlib.Core.Path.{◌∙◌, ap}
use Rattle.index.proofs.Index.{filled_lines, filled_full}
use Rattle.structure.specs.Reading.{FoundBy}
use Rattle.structure.proofs.Reading.{file_bad_line}
use Rattle.structure.proofs.find_structure.Goals as goal

pub read_rows-requires : goal.read_rows-requires
read_rows-requires c =
    record {
      lines = filled_lines _ c.fill_index.ensures c.in-Ok.is;
      s_len_bound = c.requires.s_len_bound;
      rows_len = c.requires.rows_len;
    }

pub returns-in-Ok : goal.returns-in-Ok
unfolding FoundBy
returns-in-Ok c =
    c.read_rows.ensures

pub returns-in-Err-BadLine : goal.returns-in-Err-BadLine
unfolding FoundBy
returns-in-Err-BadLine c =
    file_bad_line _ _ _ _ c.fill_index.ensures (c.in-Err-BadLine.is ∙ ap Err c.in-Err-BadLine.field-0-is)

pub returns-in-Err-Full : goal.returns-in-Err-Full
unfolding FoundBy
returns-in-Err-Full c =
    filled_full _ _ c.fill_index.ensures (c.in-Err-Full.is ∙ ap Err c.in-Err-Full.field-0-is)
