-- `filter::trials::trial_of` meets its contract: without a range the one trial passes; with one, its two ends are those of the record.
use Rattle.filter.proofs.TrialsLaws.{range_good_holds, range_none, range_some}
use Rattle.filter.proofs.trials.trial_of.Goals as goal

pub returns-then-r-eq0 : goal.returns-then-r-eq0
returns-then-r-eq0 c = range_none _ _ _ _ _ c.if-r-eq0.true

pub trial_in-requires : goal.trial_in-requires
trial_in-requires c =
    record {
      context_good = c.requires.context_good;
      given = c.requires.given;
      here = c.requires.here;
      a_lt_b = range_good_holds _ _ _ c.requires.q_value c.requires.r_le_count c.if-r-eq0.false c.range_start-a.ensures c.range_end-b.ensures;
    }

pub returns : goal.returns
returns c = range_some _ _ _ _ _ c.if-r-eq0.false c.range_start-a.ensures c.range_end-b.ensures c.trial_in.ensures
