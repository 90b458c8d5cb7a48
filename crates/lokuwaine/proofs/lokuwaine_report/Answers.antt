-- `lokuwaine::lokuwaine_report` meets its contract: the call keeps its promise, and its answer is spread as it says.
use mir.Syntax.{w64}
use mir.ValLaws.{to_z-of_z}
use Rattle.lokuwaine.proofs.Spreading.{report_spread}
use Rattle.lokuwaine.proofs.lokuwaine_report.Goals as goal

pub returns : goal.returns
returns c =
    let offset = c.ranges.offset in
    let answer = c.report.ensures in
    let spread = c.from-s.ensures in
    report_spread (to_z-of_z w64 _ offset) answer spread
