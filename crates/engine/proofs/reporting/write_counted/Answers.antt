-- `engine::reporting::write_counted` meets its contract: the seconds are those of the rows of each type, and the rest is the writing's.
use Rattle.engine.proofs.ReportWriting.{wrote_counted}
use Rattle.engine.proofs.reporting.write_counted.Goals as goal

pub returns : goal.returns
returns c =
    let write_report = c.write_report-written.ensures in
    let seconds_in = c.seconds_in.ensures in
    let seconds_in2 = c.seconds_in-2.ensures in
    wrote_counted _ _ _ _ _ _ _ _ write_report seconds_in seconds_in2 c.seconds_in-3.ensures
