-- `demands::compare` meets its contract: each call keeps its promise, and the theorem on two calls speaks of both.
use mir.Syntax.{w64}
use mir.ValLaws.{to_z-of_z}
use Rattle.engine.proofs.ReportingLaws.{reported_at}
use Rattle.demands.proofs.PairedCalls.{compared}
use Rattle.demands.proofs.compare.Goals as goal

pub returns : goal.returns
returns c =
    let first = c.report-first.ensures in
    let second = c.report-second.ensures in
    compared
    (reported_at (to_z-of_z w64 c.args.offset c.ranges.offset) first)
    (reported_at (to_z-of_z w64 c.args.offset_other c.ranges.offset_other) second)
