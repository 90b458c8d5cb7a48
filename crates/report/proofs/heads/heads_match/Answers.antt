-- `report::heads::heads_match` meets its contract: fewer bytes than the opening and the closing have do not match; of more, the three tests are the definition's own.
use mathlib.Core.Path.{sym}
use Rattle.report.proofs.HeadsLaws.{heads_match_short, heads_match_by}
use Rattle.report.proofs.heads.heads_match.Goals as goal

pub returns-then-s-lt190 : goal.returns-then-s-lt190
returns-then-s-lt190 c = sym (heads_match_short _ c.if-s-lt190.true)

pub returns : goal.returns
returns c = heads_match_by _ c.if-s-lt190.false c.opens_report.ensures c.closes_report.ensures c.all_busy_lines.ensures
