-- `report::heads::is_busy_line` meets its contract: the three tests are the definition's own.
use Rattle.report.proofs.HeadsLaws.{is_busy_line_by}
use Rattle.report.proofs.heads.is_busy_line.Goals as goal

pub returns : goal.returns
returns c = is_busy_line_by _ c.period_at.ensures c.period_at-2.ensures c.period_at-3.ensures
