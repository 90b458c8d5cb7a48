-- `query::place::place_within` meets its contract: the room from the place to the end is compared, so that no sum passes the largest number.
use Rattle.query.proofs.SectionsLaws.{place_within_reached, place_within_short}
use mathlib.Core.Path.{sym}
use native.Mathlib.Omega.{arith}
use Rattle.query.proofs.place.place_within.Goals as goal

pub returns-then-n-s : goal.returns-then-n-s
returns-then-n-s c = sym (place_within_reached _ _ (omega arith))

pub returns-else-n-s : goal.returns-else-n-s
returns-else-n-s c = sym (place_within_short _ _ (omega arith))
