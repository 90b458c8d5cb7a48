-- `query::place::behind_records` meets its contract: a count that fits is a byte of the slice, so that one place on is no sum too large, and times the width it is small.
use Rattle.query.proofs.SectionsLaws.{count_inside, product_fits, behind_yes, behind_no}
use mathlib.Core.Path.{sym, ◌∙◌}
use native.Mathlib.Omega.{arith}
use Rattle.query.proofs.place.behind_records.Goals as goal

pub overflow_add-at : goal.overflow_add-at
overflow_add-at c = omega (arith, count_inside _ _ _ _ (sym c.count_fits.ensures ∙ c.if-count_fits.true))

pub overflow_mul-byte_at : goal.overflow_mul-byte_at
overflow_mul-byte_at c = omega (arith, product_fits _ _ c.byte_at.ensures.small c.requires)

pub place_within-requires : goal.place_within-requires
place_within-requires c = omega (arith, count_inside _ _ _ _ (sym c.count_fits.ensures ∙ c.if-count_fits.true))

pub returns-then-count_fits : goal.returns-then-count_fits
returns-then-count_fits c = behind_yes _ _ _ _ _ (sym c.count_fits.ensures ∙ c.if-count_fits.true) c.byte_at.ensures.is c.place_within.ensures

pub returns-else-count_fits : goal.returns-else-count_fits
returns-else-count_fits c = sym (behind_no _ _ _ _ _ (sym c.count_fits.ensures ∙ c.if-count_fits.false))
