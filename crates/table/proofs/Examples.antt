-- Spans that touch become one period in either order, spans a second apart stay two.
use mathlib.Core.Path.{◌≡◌, refl}
use mathlib.Core.List.{[], ◌∷◌}
use Rattle.periods.specs.Periods.{period}
use Rattle.table.specs.Inserting.{absorbed, inserted}

-- the second added to the first, and the first to the second
pub touching_added : (inserted 20 30 (inserted 10 20 []) ≡ period 10 30 ∷ []) × (inserted 10 20 (inserted 20 30 []) ≡ period 10 30 ∷ [])
unfolding inserted absorbed
touching_added = (refl, refl)

pub apart_added : (inserted 21 30 (inserted 10 20 []) ≡ period 10 20 ∷ period 21 30 ∷ [])
    × (inserted 10 20 (inserted 21 30 []) ≡ period 10 20 ∷ period 21 30 ∷ [])
unfolding inserted absorbed
apart_added = (refl, refl)
