-- `table::Table::add` meets its contract. The three steps make the definition: rows that end before, the widened span, the rows behind it. The first of these are what the next span may begin behind.
use Rattle.table.proofs.Columns.{ends_second_in, passed, added}
use Rattle.table.proofs.Spans.{starts_long, ends_even}
use Rattle.table.specs.Columns.{Passed}
use native.Mathlib.Omega.{arith}
use borrow.Author.Rules.{rules}
use Rattle.table.proofs.Table.add.Goals as goal

pub skip-i-requires : goal.skip-i-requires
unfolding Passed
skip-i-requires c = search rules

pub take_in-w-requires : goal.take_in-w-requires
take_in-w-requires c = (rw c.skip-i.ensures (ends_second_in _ _ _), search rules)

pub returns : goal.returns
returns c =
    let spans = c.args.spans.now in
    let skipped = c.skip-i.ensures in
    let widened = c.take_in-w.ensures in
    let starts = c.splice.ensures.0 in
    let ends = c.splice.ensures.1 in
    record {
      added = added _ (omega (arith, starts_long spans)) (ends_even spans) skipped widened starts ends;
      passed_2 = passed _ skipped ends;
    }
