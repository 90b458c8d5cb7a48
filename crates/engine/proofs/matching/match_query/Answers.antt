-- `engine::matching::match_query` meets its contract: each answer of the reader is one way through the rows of the query.
use Rattle.std.specs.Prelude.{Err}
use mathlib.Core.Path.{sym, ◌∙◌, ap}
use Rattle.query_check.proofs.WellFormed.{read_fits, read_records}
use Rattle.engine.proofs.MatchStages.{match_refused_4, match_refused_5, match_query_passed}
use Rattle.engine.proofs.matching.match_query.Goals as goal

pub invariant_of-q : goal.invariant_of-q
invariant_of-q c = record { fits = read_fits _ _ (sym c.read_query.ensures ∙ c.in-Ok.is) }

pub match_calendar-requires : goal.match_calendar-requires
match_calendar-requires c =
    record {
      cal_in_bounds = c.requires.cal_in_bounds;
      cal_len_bound = c.requires.cal_len_bound;
      q_value = read_records _ _ (sym c.read_query.ensures ∙ c.in-Ok.is);
      context_good = c.requires.context_good;
    }

pub returns-in-Err-Bad : goal.returns-in-Err-Bad
returns-in-Err-Bad c = match_refused_4 _ _ _ _ (sym c.read_query.ensures ∙ (c.in-Err-Bad.is ∙ ap Err c.in-Err-Bad.field-0-is))

pub returns-in-Err-Misplaced : goal.returns-in-Err-Misplaced
returns-in-Err-Misplaced c = match_refused_5 _ _ _ _ (sym c.read_query.ensures ∙ (c.in-Err-Misplaced.is ∙ ap Err c.in-Err-Misplaced.field-0-is))

pub returns-in-Ok : goal.returns-in-Ok
returns-in-Ok c = match_query_passed _ _ _ _ _ (sym c.read_query.ensures ∙ c.in-Ok.is) c.match_calendar.ensures
