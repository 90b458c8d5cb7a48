-- `time::days::is_leap` meets its contract: of the hundreds every fourth is one that 16 divides (is_leap_direct).
use Rattle.time.proofs.DaysLaws.{is_leap_direct}
use Rattle.time.proofs.days.is_leap.Goals as goal

pub returns : goal.returns
returns c = is_leap_direct _
