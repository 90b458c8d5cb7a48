-- `report::heads::period_at` meets its contract: each arm compares with the head of the type it was chosen for.
use Rattle.periods.specs.declared.BusyType.{BusyType}
use Rattle.report.specs.Bytes.{period_head}
use Rattle.report.proofs.HeadsLaws.{has_head}
use Rattle.report.proofs.heads.period_at.Goals as goal

pub returns-in-Busy : goal.returns-in-Busy
unfolding period_head
returns-in-Busy c = has_head _ _ BusyType.Busy c.in-Busy.is c.has_bytes_at.ensures

pub returns-in-Tentative : goal.returns-in-Tentative
unfolding period_head
returns-in-Tentative c = has_head _ _ BusyType.Tentative c.in-Tentative.is c.has_bytes_at-in-Tentative.ensures

pub returns-in-Unavailable : goal.returns-in-Unavailable
unfolding period_head
returns-in-Unavailable c = has_head _ _ BusyType.Unavailable c.in-Unavailable.is c.has_bytes_at-in-Unavailable.ensures

pub returns-in-Free : goal.returns-in-Free
unfolding period_head
returns-in-Free c = has_head _ _ BusyType.Free c.in-Free.is c.has_bytes_at-in-Free.ensures
