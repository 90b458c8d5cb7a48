-- `series::passes::first_fault` meets its contract: what is left from a row on tells the first component that breaks a rule.
use Rattle.series.proofs.PassLaws.{checking_start, next_here, checking_reached, checking_stopped, checking_broken, checking_more, checking_end}
use native.Mathlib.Omega.{arith}
use Rattle.series.proofs.passes.first_fault.Goals as goal

pub loop-k-init : goal.loop-k-init
loop-k-init c =
    checking_start _ _ c.requires.file_rows c.requires.m_value c.requires.alone_value

pub first_line-line-requires : goal.first_line-line-requires
first_line-line-requires c = (next_here c.loop-k.invariant c.loop-k-test.true).here.row.room

pub returns-then-stop-line : goal.returns-then-stop-line
returns-then-stop-line c = checking_stopped c.loop-k.invariant c.loop-k-test.true c.first_line-line.ensures c.stop_line-stop.ensures c.if-stop-line.true

pub row_breaks-requires : goal.row_breaks-requires
row_breaks-requires c =
    let stop_line_told = c.stop_line-stop in
    let turn = c.loop-k in
    record {
      printed = c.requires.printed;
      linked = c.requires.linked;
      reached = checking_reached turn.invariant c.loop-k-test.true c.first_line-line.ensures stop_line_told.ensures c.if-stop-line.false;
    }

pub returns-then-row_breaks : goal.returns-then-row_breaks
returns-then-row_breaks c =
    let stop_line_told = c.stop_line-stop in
    let turn = c.loop-k in
    let test = c.loop-k-test in
    let first_line_told = c.first_line-line in
    checking_broken turn.invariant test.true first_line_told.ensures stop_line_told.ensures c.row_breaks.ensures c.if-row_breaks.true

pub next_row-k-requires : goal.next_row-k-requires
next_row-k-requires c = (next_here c.loop-k.invariant c.loop-k-test.true).here.row.room

pub loop-k-smaller : goal.loop-k-smaller
loop-k-smaller c = let z = (next_here c.loop-k.invariant c.loop-k-test.true).here in omega (arith, z.onward, z.within, c.next_row-k.ensures)

pub loop-k-preserved : goal.loop-k-preserved
loop-k-preserved c =
    let stop_line_told = c.stop_line-stop in
    let turn = c.loop-k in
    let test = c.loop-k-test in
    let first_line_told = c.first_line-line in
    let first_if = c.if-stop-line in
    checking_more turn.invariant test.true first_line_told.ensures stop_line_told.ensures c.row_breaks.ensures c.requires.linked first_if.false c.if-row_breaks.false c.next_row-k.ensures

pub returns : goal.returns
returns c = checking_end c.loop-k.invariant c.loop-k-test.false
