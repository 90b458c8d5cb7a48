-- `collecting::tables_of` meets its contract: each table begins behind the one before, and those before it stay.
use mathlib.Core.Path.{◌∙◌}
use Rattle.table.proofs.Spans.{starts_long, ends_long}
use Rattle.tables.proofs.Building.{periods_few}
use Rattle.collecting.proofs.CollectStages.{busy_fits, tentative_fits, typed}
use native.Mathlib.Omega.{arith}
use Rattle.collecting.proofs.tables_of.Goals as goal

pub table_at-busy-requires : goal.table_at-busy-requires
table_at-busy-requires c =
    record {
      column_in_bounds = omega (arith, periods_few c.args.n c.args.column.now);
      n_in_bounds = omega arith;
    }

pub table_at-tentative-requires : goal.table_at-tentative-requires
table_at-tentative-requires c =
    let long = c.requires.spans_len in
    let table_at = c.table_at-busy.ensures in
    record {
      column_in_bounds = omega (arith, busy_fits (starts_long _ ∙ long) (ends_long _ ∙ long) c.requires.n_bound table_at, starts_long c.table_at-busy.new.spans);
      n_in_bounds = omega arith;
    }

pub overflow_add-busy : goal.overflow_add-busy
overflow_add-busy c =
    let table_at = c.table_at-busy.ensures in
    let table_at2 = c.table_at-tentative.ensures in
    omega (arith, table_at.built.count, table_at2.built.count, periods_few c.args.n c.args.column.now)

pub table_at-unavailable-requires : goal.table_at-unavailable-requires
table_at-unavailable-requires c =
    let long = c.requires.spans_len in
    let table_at = c.table_at-busy.ensures in
    let table_at2 = c.table_at-tentative.ensures in
    record {
      column_in_bounds = omega (arith, tentative_fits (starts_long _ ∙ long) (ends_long _ ∙ long) c.requires.n_bound table_at table_at2, starts_long c.table_at-tentative.new.spans);
      n_in_bounds = omega arith;
    }

pub returns : goal.returns
returns c =
    let long = c.requires.spans_len in
    let table_at = c.table_at-busy.ensures in
    let table_at2 = c.table_at-tentative.ensures in
    let table_at3 = c.table_at-unavailable.ensures in
    typed (starts_long _ ∙ long) (ends_long _ ∙ long) c.requires.n_bound table_at table_at2 table_at3
