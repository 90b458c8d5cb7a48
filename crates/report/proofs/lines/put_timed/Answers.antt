-- `report::lines::put_timed` meets its contract: two runs of bytes, one behind the other, are one run.
use Rattle.report.proofs.Writing.{put_timed}
use Rattle.report.proofs.lines.put_timed.Goals as goal

pub returns : goal.returns
returns c = put_timed _ _ _ _ _ _ c.put_bytes.ensures c.write_utc.ensures
