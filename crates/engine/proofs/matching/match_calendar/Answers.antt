-- `engine::matching::match_calendar` meets its contract: the answer is that of the part of the buffer that unfolding wrote.
use Rattle.text.proofs.Unfolding.{unfolded_room}
use Rattle.refusals.proofs.Stages.{unfolded_long, unfolded_small}
use Rattle.engine.proofs.MatchStages.{match_calendar_read}
use native.Mathlib.Omega.{arith}
use Rattle.engine.proofs.matching.match_calendar.Goals as goal

pub slice_bounds-match_unfolded-end : goal.slice_bounds-match_unfolded-end
slice_bounds-match_unfolded-end c = unfolded_room c.unfold_into-n.ensures

pub slice_bounds-match_unfolded-end-2 : goal.slice_bounds-match_unfolded-end-2
slice_bounds-match_unfolded-end-2 c = unfolded_long c.unfold_into-n.ensures

pub match_unfolded-requires : goal.match_unfolded-requires
match_unfolded-requires c =
    let unfolded = c.unfold_into-n.ensures in
    record {
      s_len_bound = omega (arith, unfolded_small unfolded c.requires.cal_len_bound, unfolded_long unfolded);
      q_value = c.requires.q_value;
      context_good = c.requires.context_good;
    }

pub returns : goal.returns
returns c = match_calendar_read _ _ _ _ _ c.unfold_into-n.ensures c.match_unfolded.ensures
