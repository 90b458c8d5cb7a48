-- The table of wall clocks in New York and Paris: every claim is computed.
use mathlib.Core.Path.{◌≡◌, refl}
use mathlib.Core.Bool.{Bool, true, ◌&&◌}
use mathlib.Core.List.{List, [], ◌∷◌}
use lib.Dec.{eqb}
use borrow.Author.Tests.{eqb-true}
use Rattle.ascii.proofs.Bools.{and_left, and_right}
use Rattle.time.specs.Days.{is_leap, year_days, days_before_year, month_lengths, length_in, before_in, month_days, days_before_month, day_number}
use Rattle.zones.specs.RuleDays.{nth_weekday, rule_day}
use Rattle.zones.specs.Onsets.{latest_by_rule, latest_onset}
use Rattle.zones.specs.Offsets.{offset_after, governing, opening_part, offset_of, utc_clock}
use Rattle.zones.specs.PartRows.{part_row, part_at, parts_from}
use Rattle.zones.specs.Examples.{clock, ahead, behind, new_york, paris, Claim, All, table}

test : Claim → Bool
test c = eqb (utc_clock (parts_from c.zone 0) 2 c.wall) c.utc

tests : List Claim → Bool
tests [] = true
tests (c ∷ cs) = test c && tests cs

all_hold : (cs : List Claim) → tests cs ≡ true → All cs
unfolding test tests
all_hold [] h = tt
all_hold (c ∷ cs) h = (eqb-true _ _ (and_left (test c) (tests cs) h), all_hold cs (and_right (test c) (tests cs) h))

-- every row
pub edges : All table
unfolding table new_york paris clock ahead behind test tests part_row part_at parts_from offset_after governing opening_part offset_of utc_clock latest_by_rule latest_onset nth_weekday rule_day is_leap year_days days_before_year month_lengths length_in before_in month_days days_before_month day_number
edges = all_hold table refl
