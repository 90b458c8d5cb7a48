-- `table::skip` meets its contract: the walk begins at the first row, or behind rows that are known to end before. While the loop goes on, the rows passed all end before; what is counted and what is left to count make the whole.
use Rattle.table.proofs.Columns.{passing_start, passing_known, passing_more, passing_found, passing_end}
use Rattle.table.proofs.Spans.{ends_long, end_at}
use native.Mathlib.Omega.{arith}
use Rattle.table.proofs.skip.Goals as goal
use Rattle.table.proofs.skip.Goals.{then-start-from, else-start-from}

pub loop-i-init : goal.loop-i-init
loop-i-init c =
    elim c.if-start-from.branch [
      | then-start-from w ↦ rw w.first-is (passing_known _ _ _ c.requires.passed_bound (omega (arith, w.if-start-from.true)))
      | else-start-from w ↦ rw w.first-is (passing_start _ _ _)
    ]

pub returns-then-from-spans : goal.returns-then-from-spans
returns-then-from-spans c =
    let spans = c.args.spans.now in
    passing_found c.loop-i.invariant (omega arith) (omega (arith, ends_long spans)) (omega (arith, end_at spans c.loop-i.i))

pub loop-i-preserved : goal.loop-i-preserved
loop-i-preserved c =
    let spans = c.args.spans.now in
    passing_more c.loop-i.invariant (omega arith) (omega (arith, ends_long spans)) (omega (arith, end_at spans c.loop-i.i))

pub returns : goal.returns
returns c = passing_end c.loop-i.invariant (omega arith)
