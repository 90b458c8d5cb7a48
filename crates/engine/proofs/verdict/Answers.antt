-- `engine::verdict` meets its contract: offset and sizes are the first rows, and the rest is left to the query.
use mathlib.Core.Path.{sym, ◌∙◌}
use mir.Syntax.{w64}
use mir.ValLaws.{to_z-of_z}
use Rattle.refusals.proofs.Stages.{sizes_room, sizes_small}
use Rattle.refusals.proofs.Offsets.{shift_bound, offset_given}
use Rattle.engine.proofs.MatchStages.{match_up, match_refused_1, match_refused_sizes, match_sizes_passed}
use Rattle.engine.proofs.verdict.Goals as goal

pub match_query-requires : goal.match_query-requires
match_query-requires c =
    let sizes = sym c.check_sizes.ensures ∙ c.in_ok-check_sizes.was in
    record {
      cal_in_bounds = sizes_room _ _ sizes;
      cal_len_bound = sizes_small _ _ sizes;
      context_good = shift_bound _ (offset_given (to_z-of_z w64 c.args.offset c.ranges.offset) c.read_offset.ensures c.in-Some.is);
    }

pub returns-in_default : goal.returns-in_default
returns-in_default c = match_refused_1 _ _ _ _ (offset_given (to_z-of_z w64 c.args.offset c.ranges.offset) c.read_offset.ensures c.in_default.is)

pub returns-in_err-check_sizes : goal.returns-in_err-check_sizes
returns-in_err-check_sizes c =
    let offset = offset_given (to_z-of_z w64 c.args.offset c.ranges.offset) c.read_offset.ensures c.in-Some.is in
    match_up _ c.from_residual.ensures.1 (match_refused_sizes _ _ _ _ offset (sym c.check_sizes.ensures ∙ c.in_err-check_sizes.was))

pub returns : goal.returns
returns c =
    let offset = offset_given (to_z-of_z w64 c.args.offset c.ranges.offset) c.read_offset.ensures c.in-Some.is in
    match_sizes_passed _ _ _ _ offset (sym c.check_sizes.ensures ∙ c.in_ok-check_sizes.was) c.match_query.ensures
