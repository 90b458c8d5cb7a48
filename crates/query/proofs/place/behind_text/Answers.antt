-- `query::place::behind_text` meets its contract: the place is inside, so that one place on is no sum too large.
use Rattle.query.proofs.SectionsLaws.{text_yes, text_no}
use mathlib.Core.Path.{sym}
use Rattle.query.proofs.place.behind_text.Goals as goal

pub returns-then-at-s : goal.returns-then-at-s
returns-then-at-s c = text_yes _ _ c.if-at-s.true c.byte_at.ensures.is c.place_within.ensures

pub returns-else-at-s : goal.returns-else-at-s
returns-else-at-s c = sym (text_no _ _ c.if-at-s.false)
