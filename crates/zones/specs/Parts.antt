-- What holds of every part of a zone that was read (R-5), and what it is to have found the one that was looked for.
use Rattle.std.specs.Prelude.{ℕ, ◌≤◌, ◌<◌, ◌≡◌, Option, Some}
use Rattle.zones.specs.declared.Part.{Part}

-- the seconds of ten thousand years: every clock with a year of four digits comes before
abbrev pub clock_end : ℕ
clock_end = 315569520000

-- a month of a year or none, an ordinal up to 5, a weekday, a clock of four digits, and offsets of less than a day either way
pub record GoodPart (p : Part) : Type 0 where
  pub month_good : p.month ≤ 12
  pub others_good : p.others ≤ 4
  pub weekday_good : p.weekday ≤ 6
  pub start_good : p.start < clock_end
  pub from_some : 1 ≤ p.from
  pub from_good : p.from ≤ 172799
  pub to_some : 1 ≤ p.to
  pub to_good : p.to ≤ 172799

-- what was found has the property and nothing else has it; where nothing was found, nothing has it
pub record Exactly (P : ℕ → Type 0) (r : Option ℕ) : Type 0 where
  pub is_so : (d : ℕ) → r ≡ Some d → P d
  pub no_other : (d : ℕ) → P d → r ≡ Some d
