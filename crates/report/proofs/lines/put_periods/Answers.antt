-- `report::lines::put_periods` meets its contract: the loop keeps that writing the lines that are left makes all of them.
use Rattle.table.proofs.Spans.{spans_length, spans_next}
use Rattle.report.proofs.Writing.{NextLine, lines_ask, lines_next, lines_end}
use native.Mathlib.Omega.{arith}
use Rattle.report.proofs.lines.put_periods.Goals as goal

pub put_period-place-requires : goal.put_period-place-requires
put_period-place-requires c =
    let next : NextLine _ _ _ _ = lines_ask c.loop-span.invariant (spans_next _ _ c.loop-span-test.true) c.requires.ends_in_bounds in
    (next.room, rw c.from.ensures next.from_limit, rw c.from-in-loop-span.ensures next.to_limit)

pub loop-span-preserved : goal.loop-span-preserved
loop-span-preserved c =
    let line = rw (c.from.ensures, c.from-in-loop-span.ensures) at c.put_period-place.ensures in
    lines_next c.loop-span.invariant (spans_next _ _ c.loop-span-test.true) line

pub returns : goal.returns
returns c = lines_end c.loop-span.invariant (omega (arith, c.loop-span-test.false, spans_length c.args.spans.now))
