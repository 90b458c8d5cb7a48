-- `demands::read_back` meets its contract: each call keeps its promise, the second on the bytes of the first, and the theorems of a report read back speak of both.
use mir.Syntax.{w64}
use mir.ValLaws.{to_z-of_z}
use Rattle.engine.proofs.ReportingLaws.{reported_at}
use Rattle.demands.proofs.PairedCalls.{report_room, report_long, read_back_calls}
use Rattle.demands.proofs.read_back.Goals as goal

pub slice_bounds-heads_match-end : goal.slice_bounds-heads_match-end
slice_bounds-heads_match-end c = report_room c.report-first.ensures c.length_of-n.ensures

pub slice_bounds-heads_match-end-2 : goal.slice_bounds-heads_match-end-2
slice_bounds-heads_match-end-2 c = report_long c.report-first.ensures c.length_of-n.ensures

pub slice_bounds-report-end : goal.slice_bounds-report-end
slice_bounds-report-end c = report_room c.report-first.ensures c.length_of-n.ensures

pub slice_bounds-report-end-2 : goal.slice_bounds-report-end-2
slice_bounds-report-end-2 c = report_long c.report-first.ensures c.length_of-n.ensures

pub returns : goal.returns
returns c =
    let first = reported_at (to_z-of_z w64 c.args.offset c.ranges.offset) c.report-first.ensures in
    let again = reported_at (to_z-of_z w64 c.args.offset_again c.ranges.offset_again) c.report-second.ensures in
    read_back_calls first c.length_of-n.ensures c.heads_match-heads.ensures again
