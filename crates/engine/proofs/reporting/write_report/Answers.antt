-- `engine::reporting::write_report` meets its contract: the counted length is the report's, so the test is row 12 and the bytes have room.
use mathlib.Core.Path.{◌∙◌}
use Rattle.table.proofs.Spans.{starts_long, ends_long}
use Rattle.engine.proofs.ReportWriting.{counted, counted_room, write_refused, write_done}
use native.Mathlib.Omega.{arith}
use Rattle.engine.proofs.reporting.write_report.Goals as goal

pub returns-then-out-n : goal.returns-then-out-n
returns-then-out-n c =
    write_refused _ _ (counted _ _ _ _ _ _ _ _ (starts_long _ ∙ c.requires.spans_len) (ends_long _ ∙ c.requires.spans_len) c.requires.unavailable_bound c.report_length-n.ensures) c.if-out-n.true

pub put_report-requires : goal.put_report-requires
put_report-requires c =
    let room = counted_room _ _ _ _ _ _ _ _ (starts_long _ ∙ c.requires.spans_len) (ends_long _ ∙ c.requires.spans_len) c.requires.unavailable_bound c.report_length-n.ensures c.if-out-n.false in
    record {
      writable = c.requires.writable;
      unavailable_in_bounds = omega arith;
      ends_in_bounds = room;
    }

pub returns : goal.returns
returns c =
    let length = counted _ _ _ _ _ _ _ _ (starts_long _ ∙ c.requires.spans_len) (ends_long _ ∙ c.requires.spans_len) c.requires.unavailable_bound c.report_length-n.ensures in
    write_done _ _ length c.if-out-n.false c.put_report.ensures
