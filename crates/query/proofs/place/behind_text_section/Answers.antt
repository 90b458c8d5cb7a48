-- `query::place::behind_text_section` meets its contract: a count that fits is a byte of the slice, so that one place on is no sum too large.
use Rattle.query.proofs.SectionsLaws.{count_inside, text_section_yes, text_section_no}
use mathlib.Core.Path.{sym, ◌∙◌}
use native.Mathlib.Omega.{arith}
use Rattle.query.proofs.place.behind_text_section.Goals as goal

pub overflow_add-at : goal.overflow_add-at
overflow_add-at c = omega (arith, count_inside _ _ _ _ (sym c.count_fits.ensures ∙ c.if-count_fits.true))

pub returns-then-count_fits : goal.returns-then-count_fits
returns-then-count_fits c = text_section_yes _ _ (sym c.count_fits.ensures ∙ c.if-count_fits.true) c.byte_at.ensures.is c.behind_texts.ensures

pub returns-else-count_fits : goal.returns-else-count_fits
returns-else-count_fits c = sym (text_section_no _ _ (sym c.count_fits.ensures ∙ c.if-count_fits.false))
