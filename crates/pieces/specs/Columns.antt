-- How busy pieces stand in lent memory: three numbers a piece, and no more than 513 pieces, since 513 are refused.
use Rattle.std.specs.Prelude.{ℕ, ◌+◌, ◌-◌, ◌*◌, ◌≡◌, List, [], ◌∷◌, length, take}
use Rattle.std.proofs.lemmas.List.Edits.{sets}
use Rattle.periods.specs.BusyTypes.{report_place, BusyPeriod}

-- a column has room for 513 pieces
abbrev pub Room : List ℕ → Type 0
Room o = length o ≡ 1539

-- start, end and the type's place in a report
unfoldable pub flat : List BusyPeriod → List ℕ
flat [] = []
flat (p ∷ ps) = p.period.start ∷ p.period.end ∷ report_place p.busy ∷ flat ps

-- after n pieces, those that are still stored
unfoldable pub stored : ℕ → List BusyPeriod → List BusyPeriod
stored n ps = take (513 - n) ps

-- the pieces ps were stored behind n others in o, which left o', and r is their number together
pub record Stored (o : List ℕ) (n : ℕ) (ps : List BusyPeriod) (o' : List ℕ) (r : ℕ) : Type 0 where
  pub numbers : o' ≡ sets o (3 * n) (flat (stored n ps))
  pub count : r ≡ n + length (stored n ps)
