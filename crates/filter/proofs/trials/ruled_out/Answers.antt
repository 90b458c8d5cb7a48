-- `filter::trials::ruled_out` meets its contract: without a range nothing is ruled out; with one, its two ends are those of the record.
use Rattle.filter.proofs.TrialsLaws.{range_good_holds, looked_range, nothing_ruled_out}
use Rattle.filter.proofs.trials.ruled_out.Goals as goal

pub returns-then-r-eq0 : goal.returns-then-r-eq0
returns-then-r-eq0 c = λ e. nothing_ruled_out e

pub row_outside-requires : goal.row_outside-requires
row_outside-requires c =
    record {
      row_small = c.requires.row_small;
      a_lt_b = range_good_holds _ _ _
          c.requires.q_value
          c.requires.r_le_count
          c.if-r-eq0.false
          c.range_start-a.ensures c.range_end-b.ensures;
    }

pub returns : goal.returns
returns c = λ e. looked_range _ _ _ c.if-r-eq0.false c.range_start-a.ensures c.range_end-b.ensures (c.row_outside.ensures e)
