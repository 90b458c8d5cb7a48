-- `lokuwaine::lokuwaine_match` meets its contract: the call keeps its promise, and its answer is spread as it says.
use mir.Syntax.{w64}
use mir.ValLaws.{to_z-of_z}
use Rattle.lokuwaine.proofs.Spreading.{match_spread}
use Rattle.lokuwaine.proofs.lokuwaine_match.Goals as goal

pub returns : goal.returns
returns c = match_spread (to_z-of_z w64 _ c.ranges.offset) c.matches.ensures c.from-s.ensures
