-- `engine::report_seconds` meets its contract: a refusal of the tables is handed on; otherwise refusal, length and seconds are those of the writing.
use mir.Syntax.{w64}
use mir.ValLaws.{to_z-of_z}
use mathlib.Core.Path.{subst}
use Rattle.collecting.specs.CollectStages.{Few}
use Rattle.engine.proofs.ReportingLaws.{told_writable, seconds_refused, seconds_written, seconds_at}
use borrow.Author.Rules.{rules}
use Rattle.engine.proofs.report_seconds.Goals as goal

pub write_counted-requires : goal.write_counted-requires
write_counted-requires c =
    let collect = c.collect-c.ensures in
    record {
      writable = told_writable collect c.in-Ok.is;
      spans_len = search rules;
      unavailable_bound = subst Few c.in-Ok.is collect.few;
    }

pub returns-in-Err : goal.returns-in-Err
returns-in-Err c = seconds_at (to_z-of_z w64 c.args.offset c.ranges.offset) (seconds_refused c.collect-c.ensures c.in-Err.is)

pub returns-in-Ok : goal.returns-in-Ok
returns-in-Ok c = seconds_at (to_z-of_z w64 c.args.offset c.ranges.offset) (seconds_written c.collect-c.ensures c.in-Ok.is c.write_counted.ensures)
