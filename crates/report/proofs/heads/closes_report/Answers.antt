-- `report::heads::closes_report` meets its contract: fewer than thirty bytes do not hold the last two lines, and of more the test is the definition's own.
use mathlib.Core.Path.{sym}
use Rattle.report.specs.Heads.{closes_report, closing}
use Rattle.report.proofs.HeadsLaws.{closes_report_short}
use Rattle.report.proofs.heads.closes_report.Goals as goal

pub returns-then-s-lt30 : goal.returns-then-s-lt30
returns-then-s-lt30 c = sym (closes_report_short _ c.if-s-lt30.true)

pub returns : goal.returns
unfolding closes_report closing
returns c = c.has_bytes_at.ensures
