-- `index::fill_index` meets its contract: the loop keeps that the lines before this place are well formed, and known once the next entry is written.
use Rattle.line.proofs.WellFormed.{named_line, bad_line_lem, no_line}
use Rattle.index.specs.Index.{FilledBy}
use Rattle.index.proofs.Index.{filling_start, filling_fits, filling_full, filling_next, filling_bad, filling_end}
use native.Mathlib.Omega.{arith}
use Rattle.index.proofs.fill_index.Goals as goal

pub loop-n-init : goal.loop-n-init
loop-n-init c = filling_start _ c.args.index.now c.requires.s_len_bound

pub overflow_mul-entry : goal.overflow_mul-entry
overflow_mul-entry c = omega (arith, filling_fits c.loop-n.invariant (named_line _ _ c.next_good.ensures c.in-Line.is))

pub overflow_add-entry : goal.overflow_add-entry
overflow_add-entry c = omega (arith, filling_fits c.loop-n.invariant (named_line _ _ c.next_good.ensures c.in-Line.is))

pub overflow_cast-entry : goal.overflow_cast-entry
overflow_cast-entry c = omega (arith, filling_fits c.loop-n.invariant (named_line _ _ c.next_good.ensures c.in-Line.is))

pub overflow_add-at : goal.overflow_add-at
overflow_add-at c =
    let line = named_line _ _ c.next_good.ensures c.in-Line.is in
    omega (arith, line.good.line.inside)

pub loop-n-preserved : goal.loop-n-preserved
loop-n-preserved c =
    let so_far = c.loop-n.invariant in
    filling_next so_far (named_line _ _ c.next_good.ensures c.in-Line.is) (omega (arith, so_far.long))

pub returns-in-Bad : goal.returns-in-Bad
unfolding FilledBy
returns-in-Bad c = filling_bad c.loop-n.invariant (bad_line_lem c.next_good.ensures c.in-Bad.is)

pub returns-in-End : goal.returns-in-End
returns-in-End c =
    let so_far = c.loop-n.invariant in
    filling_end so_far (omega (arith, so_far.long)) (no_line c.next_good.ensures c.in-End.is)

pub returns : goal.returns
unfolding FilledBy
returns c = filling_full c.loop-n.invariant (omega arith)
