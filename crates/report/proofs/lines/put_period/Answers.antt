-- `report::lines::put_period` meets its contract: a head with the start, a solidus with the end, and CR LF are the line of the period.
use Rattle.report.proofs.Writing.{timed_place, put_line}
use native.Mathlib.Omega.{arith}
use Rattle.report.proofs.lines.put_period.Goals as goal

pub put_timed-b-requires : goal.put_timed-b-requires
put_timed-b-requires c = omega (arith, timed_place _ _ c.put_timed-a.ensures)

pub put_bytes-requires : goal.put_bytes-requires
put_bytes-requires c =
    let start = c.put_timed-a.ensures in
    let end = c.put_timed-b.ensures in
    omega (arith, timed_place _ _ start, timed_place _ _ end)

pub overflow_add-result : goal.overflow_add-result
overflow_add-result c =
    let start = c.put_timed-a.ensures in
    let end = c.put_timed-b.ensures in
    omega (arith, timed_place _ _ start, timed_place _ _ end)

pub returns : goal.returns
returns c =
    let start = c.put_timed-a.ensures in
    let end = c.put_timed-b.ensures in
    let line_end = c.put_bytes.ensures in
    put_line _ _ _ _ _ _ _ _ _ _ start end line_end
