-- A part as a row of eight numbers, of which the last is free: the row of it, what a row says, and the rows of a zone.
use Rattle.std.specs.Prelude.{ℕ, ◌+◌, ◌*◌, ◌≤◌, ◌<◌, ◌≡◌, cond, List, [], ◌∷◌, eqb, get_or, length}
use Rattle.zones.specs.declared.Part.{Part}
use Rattle.zones.specs.Parts.{GoodPart}

-- the row of a part
unfoldable pub part_row : Part → List ℕ
part_row p = p.start ∷ p.from ∷ p.to ∷ p.month ∷ p.others ∷ cond p.back 1 0 ∷ p.weekday ∷ 0 ∷ []

-- the part of row i
unfoldable pub part_at : List ℕ → ℕ → Part
part_at parts i =
    record {
      start = get_or parts (8 * i) 0;
      from = get_or parts (8 * i + 1) 0;
      to = get_or parts (8 * i + 2) 0;
      month = get_or parts (8 * i + 3) 0;
      others = get_or parts (8 * i + 4) 0;
      back = eqb (get_or parts (8 * i + 5) 0) 1;
      weekday = get_or parts (8 * i + 6) 0;
    }

-- row i of the column became this row, and all other numbers are as they were
pub record PartPut (old : List ℕ) (i : ℕ) (row new : List ℕ) : Type 0 where
  pub here : (x : ℕ) → x < 8 → get_or new (8 * i + x) 0 ≡ get_or row x 0
  pub before : (x : ℕ) → x < 8 * i → get_or new x 0 ≡ get_or old x 0
  pub behind : (x : ℕ) → 8 * i + 8 ≤ x → get_or new x 0 ≡ get_or old x 0

-- the parts of the zone whose rows start at `first`
unfoldable pub parts_from : List ℕ → ℕ → ℕ → Part
parts_from parts first i = part_at parts (first + i)

-- a zone of n parts stands in the rows from `first` on
pub record ZoneRows (parts : List ℕ) (first n : ℕ) : Type 0 where
  pub some : 1 ≤ n
  pub fit : 8 * (first + n) ≤ length parts
  pub good : (i : ℕ) → i < n → GoodPart (parts_from parts first i)
