-- `report::heads::all_busy_lines` meets its contract: the loop keeps that the lines that are left decide; the measure is the bytes that are left.
use mathlib.Core.Path.{sym, ◌∙◌}
use Rattle.text.proofs.Lines.{line_from, no_line_from}
use Rattle.report.proofs.HeadsLaws.{heads_start, heads_next, heads_stop, heads_end}
use native.Mathlib.Omega.{arith}
use Rattle.report.proofs.heads.all_busy_lines.Goals as goal

pub loop-e-init : goal.loop-e-init
loop-e-init c = heads_start _

pub slice_bounds-is_busy_line-count : goal.slice_bounds-is_busy_line-count
slice_bounds-is_busy_line-count c = let h = line_from _ _ c.next_line.ensures c.in-Some.is in omega (arith, h.starts, h.ends, h.inside)

pub slice_bounds-is_busy_line-start : goal.slice_bounds-is_busy_line-start
slice_bounds-is_busy_line-start c = let h = line_from _ _ c.next_line.ensures c.in-Some.is in omega (arith, h.starts, h.ends, h.inside)

pub slice_bounds-is_busy_line-end : goal.slice_bounds-is_busy_line-end
slice_bounds-is_busy_line-end c = let h = line_from _ _ c.next_line.ensures c.in-Some.is in omega (arith, h.starts, h.ends, h.inside)

pub returns-then-not-is_busy_line : goal.returns-then-not-is_busy_line
returns-then-not-is_busy_line c =
    let heads = c.loop-e.invariant in
    let read = line_from _ _ c.next_line.ensures c.in-Some.is in
    let other = sym c.is_busy_line.ensures ∙ c.if-not-is_busy_line.true in
    heads_stop heads read other

pub loop-e-smaller : goal.loop-e-smaller
loop-e-smaller c = let h = line_from _ _ c.next_line.ensures c.in-Some.is in omega (arith, h.goes_on, h.inside)

pub loop-e-preserved : goal.loop-e-preserved
loop-e-preserved c =
    let heads = c.loop-e.invariant in
    let read = line_from _ _ c.next_line.ensures c.in-Some.is in
    let busy = sym c.is_busy_line.ensures ∙ c.if-not-is_busy_line.false in
    heads_next heads read busy

pub returns : goal.returns
returns c = heads_end c.loop-e.invariant (no_line_from c.next_line.ensures c.in_default.is)
