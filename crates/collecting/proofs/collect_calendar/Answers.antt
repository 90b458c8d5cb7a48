-- `collecting::collect_calendar` meets its contract: the tables are those of the part of the buffer that unfolding wrote.
use Rattle.text.proofs.Unfolding.{unfolded_room}
use Rattle.refusals.proofs.Stages.{unfolded_long, unfolded_small}
use Rattle.collecting.proofs.CollectStages.{calendar_collected}
use native.Mathlib.Omega.{arith}
use Rattle.collecting.proofs.collect_calendar.Goals as goal

pub slice_bounds-collect_unfolded-end : goal.slice_bounds-collect_unfolded-end
slice_bounds-collect_unfolded-end c = unfolded_room c.unfold_into-n.ensures

pub slice_bounds-collect_unfolded-end-2 : goal.slice_bounds-collect_unfolded-end-2
slice_bounds-collect_unfolded-end-2 c = unfolded_long c.unfold_into-n.ensures

pub collect_unfolded-requires : goal.collect_unfolded-requires
collect_unfolded-requires c =
    let unfolded = c.unfold_into-n.ensures in
    record {
      spans_len = c.requires.spans_len;
      s_len_bound = omega (arith, unfolded_small unfolded c.requires.cal_len_bound, unfolded_long unfolded);
      context_good = c.requires.context_good;
      start_lt_end = c.requires.start_lt_end;
    }

pub returns : goal.returns
returns c =
    let unfold_into = c.unfold_into-n.ensures in
    let collect_unfolded = c.collect_unfolded.ensures in
    calendar_collected _ _ _ _ _ unfold_into collect_unfolded
