-- `report::heads::has_bytes_at` meets its contract: what is read is the rest of the bytes from the place on, and past the end only the empty string stands.
use mathlib.Core.Path.{◌∙◌}
use Rattle.report.proofs.HeadsLaws.{has_bytes_at_past, has_bytes_at_from, starts_begins}
use Rattle.report.proofs.heads.has_bytes_at.Goals as goal

pub returns-then-s-at : goal.returns-then-s-at
returns-then-s-at c = c.is_empty.ensures ∙ has_bytes_at_past _ _ _ c.if-s-at.true

pub returns : goal.returns
returns c = c.starts_with.ensures.value ∙ starts_begins _ _ ∙ has_bytes_at_from _ _ _
