-- `tables::table_of` meets its contract: while the loop goes on, what is left of the pieces, added to the table so far, makes the whole table.
use Rattle.table.specs.Columns.{Passed}
use Rattle.table.proofs.Spans.{starts_long, ends_even}
use Rattle.tables.proofs.Building.{building_start, building_asks, building_added, building_passed, building_end}
use native.Mathlib.Omega.{arith}
use borrow.Author.Rules.{rules}
use Rattle.tables.proofs.table_of.Goals as goal
use Rattle.tables.proofs.table_of.Goals.{then-column-at, else-column-at}

pub loop-i-init : goal.loop-i-init
unfolding Passed
loop-i-init c = (building_start _ _ (ends_even c.args.spans.now), search rules)

pub add-t-requires : goal.add-t-requires
add-t-requires c =
    let built = c.loop-i.invariant.0 in
    let room = starts_long c.args.spans.now in
    let asked = building_asks built c.loop-i-test.true (omega arith) (omega (arith, c.if-column-at.true)) (omega (arith, room)) in
    record { count_in_bounds = omega (arith, asked.0, starts_long c.loop-i.spans); passed = c.loop-i.invariant.1 }

pub loop-i-preserved : goal.loop-i-preserved
loop-i-preserved c =
    elim c.if-column-at.branch [
      | then-column-at w ↦
          let add = w.add-t.ensures in
          let added = building_added c.loop-i.invariant.0 c.loop-i-test.true (omega arith) (omega (arith, w.if-column-at.true)) add.added in
          rw (w.spans-is, w.t-is) (added (omega (arith, starts_long w.add-t.new.spans, starts_long c.args.spans.now)), add.passed_2)
      | else-column-at w ↦
          let passed = building_passed c.loop-i.invariant.0 c.loop-i-test.true (omega arith) (omega (arith, w.if-column-at.false)) in
          rw (w.spans-is, w.t-is) (passed, c.loop-i.invariant.1)
    ]

pub returns : goal.returns
returns c = building_end c.loop-i.invariant.0 (omega arith)
