-- `text::fold` meets its contract: each arm of the match is the definition's own case.
use Rattle.text.specs.TextMatch.{folded_by}
use Rattle.text.proofs.fold.Goals as goal

pub returns-in-Octet : goal.returns-in-Octet
unfolding folded_by
returns-in-Octet c = rw c.in-Octet.is

pub returns-in-AsciiCasemap : goal.returns-in-AsciiCasemap
unfolding folded_by
returns-in-AsciiCasemap c = rw c.in-AsciiCasemap.is c.upper.ensures
