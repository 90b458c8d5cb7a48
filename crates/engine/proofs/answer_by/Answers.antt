-- `engine::answer_by` meets its contract: each arm is one clause of the definition.
use Rattle.engine.specs.Answers.{answer_by}
use Rattle.engine.proofs.answer_by.Goals as goal

pub returns-in-Ok : goal.returns-in-Ok
unfolding answer_by
returns-in-Ok c = simp c.in-Ok.is

pub returns-in-Err : goal.returns-in-Err
unfolding answer_by
returns-in-Err c = simp c.in-Err.is
