-- Two zones, New York and Paris, and the UTC time of sixteen wall clocks around their changes.
use Rattle.std.specs.Prelude.{ℕ, ◌+◌, ◌-◌, ◌*◌, ◌≡◌, false, true, List, [], ◌∷◌, ◌++◌}
use Rattle.time.specs.Days.{day_number}
use Rattle.zones.specs.PartRows.{part_row, parts_from}
use Rattle.zones.specs.Offsets.{utc_clock}

-- year, month, day, hour, minute, second
unfoldable pub clock : ℕ → ℕ → ℕ → ℕ → ℕ → ℕ → ℕ
clock y mo d h mi s = day_number y mo d * 86400 + h * 3600 + mi * 60 + s

-- an offset of so many hours
unfoldable pub ahead : ℕ → ℕ
ahead h = 86400 + h * 3600

unfoldable pub behind : ℕ → ℕ
behind h = 86400 - h * 3600

-- ---- the zones

-- on the second Sunday of March, and on the first of November
unfoldable pub new_york : List ℕ
new_york =
    part_row (record { start = clock 2007 3 11 2 0 0; from = behind 5; to = behind 4; month = 3; others = 1; back = false; weekday = 0 })
    ++ part_row (record { start = clock 2007 11 4 2 0 0; from = behind 4; to = behind 5; month = 11; others = 0; back = false; weekday = 0 })

-- on the last Sunday of March, and on that of October
unfoldable pub paris : List ℕ
paris =
    part_row (record { start = clock 1981 3 29 2 0 0; from = ahead 1; to = ahead 2; month = 3; others = 0; back = true; weekday = 0 })
    ++ part_row (record { start = clock 1996 10 27 3 0 0; from = ahead 2; to = ahead 1; month = 10; others = 0; back = true; weekday = 0 })

-- ---- the table

-- a wall clock in a zone of two parts, and what it is by UTC
pub record Claim : Type 0 where
  pub zone : List ℕ
  pub wall : ℕ
  pub utc : ℕ

abbrev pub Holds : Claim → Type 0
Holds c = utc_clock (parts_from c.zone 0) 2 c.wall ≡ c.utc

abbrev pub All : List Claim → Type 0
All [] = Unit {0}
All (c ∷ cs) = Holds c × All cs

abbrev pub in_new_york : ℕ → ℕ → Claim
in_new_york w u = record { zone = new_york; wall = w; utc = u }

abbrev pub in_paris : ℕ → ℕ → Claim
in_paris w u = record { zone = paris; wall = w; utc = u }

-- up to a gap, in it, where it ends; an hour that comes twice is its first, and behind it; before any onset
unfoldable pub table : List Claim
table =
    in_new_york (clock 2024 3 10 1 59 59) (clock 2024 3 10 6 59 59)
    ∷ in_new_york (clock 2024 3 10 2 0 0) (clock 2024 3 10 7 0 0)
    ∷ in_new_york (clock 2024 3 10 2 30 0) (clock 2024 3 10 7 30 0)
    ∷ in_new_york (clock 2024 3 10 2 59 59) (clock 2024 3 10 7 59 59)
    ∷ in_new_york (clock 2024 3 10 3 0 0) (clock 2024 3 10 7 0 0)
    ∷ in_new_york (clock 2024 11 3 1 0 0) (clock 2024 11 3 5 0 0)
    ∷ in_new_york (clock 2024 11 3 1 59 59) (clock 2024 11 3 5 59 59)
    ∷ in_new_york (clock 2024 11 3 2 0 0) (clock 2024 11 3 7 0 0)
    ∷ in_paris (clock 1981 1 1 0 0 0) (clock 1980 12 31 23 0 0)
    ∷ in_paris (clock 2024 3 31 1 59 59) (clock 2024 3 31 0 59 59)
    ∷ in_paris (clock 2024 3 31 2 0 0) (clock 2024 3 31 1 0 0)
    ∷ in_paris (clock 2024 3 31 2 59 59) (clock 2024 3 31 1 59 59)
    ∷ in_paris (clock 2024 3 31 3 0 0) (clock 2024 3 31 1 0 0)
    ∷ in_paris (clock 2024 10 27 2 0 0) (clock 2024 10 27 0 0 0)
    ∷ in_paris (clock 2024 10 27 2 59 59) (clock 2024 10 27 0 59 59)
    ∷ in_paris (clock 2024 10 27 3 0 0) (clock 2024 10 27 2 0 0)
    ∷ []
