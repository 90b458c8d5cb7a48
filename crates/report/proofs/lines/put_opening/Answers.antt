-- `report::lines::put_opening` meets its contract: stamp, start and end, each behind its head, and CR LF are the lines before the periods.
use Rattle.report.specs.Heads.{stamp_head, start_head, end_head}
use Rattle.report.proofs.Writing.{timed_place, put_opening}
use native.Mathlib.Omega.{arith}
use Rattle.report.proofs.lines.put_opening.Goals as goal

pub put_timed-b-requires : goal.put_timed-b-requires
put_timed-b-requires c = omega (arith, timed_place _ _ c.put_timed-a.ensures)

pub put_timed-c-requires : goal.put_timed-c-requires
put_timed-c-requires c =
    let stamp = c.put_timed-a.ensures in
    let start = c.put_timed-b.ensures in
    omega (arith, timed_place _ _ stamp, timed_place _ _ start)

pub put_bytes-requires : goal.put_bytes-requires
put_bytes-requires c =
    let stamp = c.put_timed-a.ensures in
    let start = c.put_timed-b.ensures in
    let end = c.put_timed-c.ensures in
    omega (arith, timed_place _ _ stamp, timed_place _ _ start, timed_place _ _ end)

pub overflow_add-result : goal.overflow_add-result
overflow_add-result c =
    let stamp = c.put_timed-a.ensures in
    let start = c.put_timed-b.ensures in
    let end = c.put_timed-c.ensures in
    omega (arith, timed_place _ _ stamp, timed_place _ _ start, timed_place _ _ end)

pub returns : goal.returns
unfolding stamp_head start_head end_head
returns c =
    let stamp = c.put_timed-a.ensures in
    let start = c.put_timed-b.ensures in
    let end = c.put_timed-c.ensures in
    let line_end = c.put_bytes.ensures in
    put_opening _ _ _ stamp start end line_end
