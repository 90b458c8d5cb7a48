-- each line lies inside the bytes, and the next one begins behind it
use Rattle.std.proofs.Common.{arith}
use Rattle.text.proofs.Lines.{line_from}
use Rattle.vectors.proofs.lines.show_lines.Goals as goal

pub slice_bounds-show_line-count : goal.slice_bounds-show_line-count
slice_bounds-show_line-count g c = omega (arith, line_from _ _ c.next_line.ensures c.in-Some.is)

pub slice_bounds-show_line-start : goal.slice_bounds-show_line-start
slice_bounds-show_line-start g c = omega (arith, line_from _ _ c.next_line.ensures c.in-Some.is)

pub slice_bounds-show_line-end : goal.slice_bounds-show_line-end
slice_bounds-show_line-end g c = omega (arith, line_from _ _ c.next_line.ensures c.in-Some.is)

pub loop-e-smaller : goal.loop-e-smaller
loop-e-smaller g c = omega (arith, line_from _ _ c.next_line.ensures c.in-Some.is)
