-- `collecting::collect` meets its contract: range, stamp, offset and sizes are the first rows, and the rest is left to the calendar.
use mathlib.Core.Path.{sym, ◌∙◌}
use mir.Syntax.{w64}
use mir.ValLaws.{to_z-of_z}
use Rattle.refusals.proofs.Stages.{sizes_room, sizes_small}
use Rattle.collecting.proofs.CollectStages.{call_given, call_bounds}
use Rattle.collecting.proofs.Collecting.{collect_refused_1, collect_refused_sizes, collect_sizes_passed}
use Rattle.collecting.proofs.collect.Goals as goal

pub collect_calendar-requires : goal.collect_calendar-requires
collect_calendar-requires c =
    let good = call_given _ _ _ (to_z-of_z w64 c.args.offset c.ranges.offset) c.read_call.ensures c.in-Some.is in
    let bounds = call_bounds _ _ _ _ good in
    let sizes = sym c.check_sizes.ensures ∙ c.in_ok-check_sizes.was in
    record {
      spans_len = c.requires;
      cal_in_bounds = sizes_room _ _ sizes;
      cal_len_bound = sizes_small _ _ sizes;
      context_good = bounds.0;
      start_lt_end = (bounds.1, bounds.2);
    }

pub returns-in_default : goal.returns-in_default
returns-in_default c =
    let bad = call_given _ _ _ (to_z-of_z w64 c.args.offset c.ranges.offset) c.read_call.ensures c.in_default.is in
    collect_refused_1 _ _ _ _ _ _ bad

pub returns-in_err-check_sizes : goal.returns-in_err-check_sizes
returns-in_err-check_sizes c =
    let good = call_given _ _ _ (to_z-of_z w64 c.args.offset c.ranges.offset) c.read_call.ensures c.in-Some.is in
    collect_refused_sizes _ _ _ _ _ _ good (sym c.check_sizes.ensures ∙ c.in_err-check_sizes.was) c.from_residual.ensures.1

pub returns : goal.returns
returns c =
    let good = call_given _ _ _ (to_z-of_z w64 c.args.offset c.ranges.offset) c.read_call.ensures c.in-Some.is in
    collect_sizes_passed _ _ _ _ _ _ good (sym c.check_sizes.ensures ∙ c.in_ok-check_sizes.was) c.collect_calendar.ensures
