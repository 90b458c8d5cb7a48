-- `demands::same_reports` meets its contract: the lengths are those of the answers, and the bytes are compared up to them.
use Rattle.demands.proofs.PairedCalls.{same_answers}
use Rattle.demands.proofs.same_reports.Goals as goal

pub returns : goal.returns
returns c = same_answers _ _ _ _ c.length_of-n.ensures c.length_of-k.ensures c.same_first.ensures
