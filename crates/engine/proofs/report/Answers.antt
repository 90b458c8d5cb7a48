-- `engine::report` meets its contract: the answer is by the refusal and the length of the call that counts seconds besides.
use mir.Syntax.{w64}
use mir.ValLaws.{to_z-of_z}
use Rattle.engine.proofs.ReportingLaws.{seconds_answer, reported_at}
use Rattle.engine.proofs.report.Goals as goal

pub returns : goal.returns
returns c =
    reported_at (to_z-of_z w64 c.args.offset c.ranges.offset) (seconds_answer c.answer_by.ensures c.report_seconds-r.ensures)
