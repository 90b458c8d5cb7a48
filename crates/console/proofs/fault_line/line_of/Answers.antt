-- a line lies inside the bytes, from where it begins
use Rattle.std.proofs.Common.{arith}
use Rattle.text.proofs.Lines.{line_from}
use Rattle.console.proofs.fault_line.line_of.Goals as goal

pub slice_bounds-result-count : goal.slice_bounds-result-count
slice_bounds-result-count c = omega (arith, line_from _ _ c.next_line-2.ensures c.in_ok-end.was)

pub slice_bounds-result-start : goal.slice_bounds-result-start
slice_bounds-result-start c = omega (arith, line_from _ _ c.next_line-2.ensures c.in_ok-end.was)

pub slice_bounds-result-end : goal.slice_bounds-result-end
slice_bounds-result-end c = omega (arith, line_from _ _ c.next_line-2.ensures c.in_ok-end.was)
