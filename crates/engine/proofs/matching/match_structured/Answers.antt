-- `engine::matching::match_structured` meets its contract: what was read of the structure is refusal 6 or 7, or the rows by which the contents are read.
use Rattle.contents.proofs.Contents.{structure_known}
use mathlib.Core.Path.{◌∙◌, ap, sym}
use Rattle.engine.specs.Answers.{outcome_of}
use Rattle.engine.proofs.Answers.{answer_up}
use Rattle.engine.proofs.MatchStages.{structure_refusal_told, structure_passes}
use Rattle.engine.proofs.matching.match_structured.Goals as goal

pub match_contents-requires : goal.match_contents-requires
match_contents-requires c =
    record {
      s_len_bound = c.requires.s_len_bound;
      file_rows = structure_known c.requires.structure_read c.structure_fault.ensures c.in_ok-structure_fault.was;
      q_value = c.requires.q_value;
      context_good = c.requires.context_good;
    }

pub returns-in_err-structure_fault : goal.returns-in_err-structure_fault
returns-in_err-structure_fault c =
    ap outcome_of (sym (answer_up _ c.from_residual.ensures.1)) ∙ structure_refusal_told c.requires.structure_read c.structure_fault.ensures _ _ _ c.in_err-structure_fault.was

pub returns : goal.returns
returns c = structure_passes c.requires.structure_read c.structure_fault.ensures _ _ _ _ c.in_ok-structure_fault.was c.match_contents.ensures
