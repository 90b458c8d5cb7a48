-- `zones::changes::begun_year` meets its contract: the division is never too high.
use Rattle.zones.proofs.ChangesLaws.{begun_first, begun}
use Rattle.zones.proofs.changes.begun_year.Goals as goal

pub returns-then-day-eq0 : goal.returns-then-day-eq0
returns-then-day-eq0 c = begun_first _

pub returns : goal.returns
returns c = begun _ c.if-day-eq0.false
