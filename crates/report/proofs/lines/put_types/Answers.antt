-- `report::lines::put_types` meets its contract: the lines of the three types stand one behind the other, each where the last one ended.
use Rattle.periods.specs.declared.BusyType.{BusyType}
use Rattle.report.proofs.Writing.{busy_room, tentative_room, unavailable_room, put_types}
use Rattle.report.specs.Bytes.{period_head}
use Rattle.report.specs.Writing.{packed}
use native.Mathlib.Omega.{arith}
use Rattle.report.proofs.lines.put_types.Goals as goal

pub put_table-a-requires : goal.put_table-a-requires
unfolding period_head packed
put_table-a-requires c =
    record { count_in_bounds = omega (arith, c.requires.unavailable_in_bounds); good_periods = c.requires.all_good BusyType.Busy; ends_in_bounds = busy_room (packed _ _ _ _ _) _ _ c.requires.ends_in_bounds }

pub put_table-b-requires : goal.put_table-b-requires
unfolding period_head packed
put_table-b-requires c =
    let busy = c.put_table-a.ensures in
    record { count_in_bounds = omega (arith, c.requires.unavailable_in_bounds); good_periods = c.requires.all_good BusyType.Tentative; ends_in_bounds = omega (arith, tentative_room (packed _ _ _ _ _) _ _ c.requires.ends_in_bounds busy) }

pub put_table-requires : goal.put_table-requires
unfolding period_head packed
put_table-requires c =
    let busy = c.put_table-a.ensures in
    let tentative = c.put_table-b.ensures in
    record {
      count_in_bounds = omega (arith, c.requires.unavailable_in_bounds);
      good_periods = c.requires.all_good BusyType.Unavailable;
      ends_in_bounds = omega (arith, unavailable_room (packed _ _ _ _ _) _ _ c.requires.ends_in_bounds busy tentative);
    }

pub returns : goal.returns
unfolding period_head packed
returns c =
    let put_table = c.put_table-a.ensures in
    let put_table2 = c.put_table-b.ensures in
    let put_table3 = c.put_table.ensures in
    put_types (packed _ _ _ _ _) put_table put_table2 put_table3
