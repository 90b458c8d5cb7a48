-- `engine::matching::match_excepted` meets its contract: what both walks answer is a refusal of 8 to 10, or the rows by which the filter is asked.
use mathlib.Core.Path.{◌∙◌, ap, sym}
use Rattle.contents.proofs.WalksLaws.{walks_pass, walks_refuse}
use Rattle.engine.specs.Answers.{outcome_of}
use Rattle.engine.proofs.Answers.{answer_up}
use Rattle.engine.proofs.MatchStages.{contents_refusal, contents_verdict}
use native.Mathlib.Omega.{arith}
use Rattle.engine.proofs.matching.match_excepted.Goals as goal

pub read_components-requires : goal.read_components-requires
read_components-requires c =
    record {
      room = omega arith;
      entries_len = omega arith;
      links_len = omega arith;
      s_len_bound = (c.requires.s_len_bound.0, omega (arith, c.requires.s_len_bound.1));
      context_good = c.requires.context_good;
      file_rows = c.requires.file_rows;
      a_lt_b = (omega arith, omega arith);
    }

pub file_holds-holds-requires : goal.file_holds-holds-requires
file_holds-holds-requires c =
    let told = walks_pass c.read_components.ensures _ c.in_ok-read_components.was in
    record {
      q_value = c.requires.q_value;
      context_good = c.requires.context_good;
      file_rows = c.requires.file_rows;
      entry_rows = told.entries;
      removable = told.removable;
      exceptions_len_bound = omega (arith, c.exceptions-1.given, c.requires.s_len_bound.1);
    }

pub returns-in_err-read_components : goal.returns-in_err-read_components
returns-in_err-read_components c =
    ap outcome_of (sym (answer_up _ c.from_residual.ensures.1)) ∙ contents_refusal _ _ _ _ (walks_refuse c.read_components.ensures _ c.in_err-read_components.was)

pub returns : goal.returns
returns c =
    let told = walks_pass c.read_components.ensures _ c.in_ok-read_components.was in
    contents_verdict _ _ _ _ told.no_fault c.file_holds-holds.ensures
