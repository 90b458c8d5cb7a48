-- `time::writing::put_bytes` meets its contract: the part that is copied over is what storing byte after byte leaves.
use Rattle.time.proofs.Stores.{sets_part}
use native.Mathlib.Omega.{arith}
use Rattle.time.proofs.writing.put_bytes.Goals as goal

pub returns : goal.returns
returns c = sets_part _ _ c.args.at (omega arith) c.copy_over.ensures.after c.requires
