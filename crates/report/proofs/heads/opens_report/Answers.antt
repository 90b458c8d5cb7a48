-- `report::heads::opens_report` meets its contract: the three tests are the definition's own.
use Rattle.report.specs.Heads.{opens_report, stamp_head, start_head, end_head}
use Rattle.report.proofs.HeadsLaws.{opens_report_by}
use Rattle.report.proofs.heads.opens_report.Goals as goal

pub returns : goal.returns
unfolding opens_report stamp_head start_head end_head
returns c = opens_report_by _ c.has_bytes_at.ensures c.has_bytes_at-2.ensures c.has_bytes_at-3.ensures
