-- `series::moved::store_moved` meets its contract: those of the rows that are left are stored behind those before.
use Rattle.series.proofs.MovedLaws.{moving_start, moving_past, moving_more, moving_end, named_one_by}
use native.Mathlib.Omega.{arith}
use Rattle.series.proofs.moved.store_moved.Goals as goal
use Rattle.series.proofs.moved.store_moved.Goals.{in-Some, in_default}

pub loop-k-init : goal.loop-k-init
loop-k-init c = moving_start _ _ _ _ _ _ _

pub named_second-requires : goal.named_second-requires
named_second-requires c =
    record {
      row_tied = c.requires.tied.each _ c.loop-k-test.true;
      one_at = c.requires.one_each _ c.loop-k-test.true;
    }

pub overflow_cast-out : goal.overflow_cast-out
overflow_cast-out c = omega (arith, (named_one_by c.named_second.ensures c.in-Some.is).0)

pub offset_bounds-out-end : goal.offset_bounds-out-end
offset_bounds-out-end c =
    let turn = c.loop-k in
    omega (arith, turn.invariant.few, turn.invariant.long, c.requires.m_in_bounds)

pub bounds-out-end : goal.bounds-out-end
bounds-out-end c =
    let turn = c.loop-k in
    let test = c.loop-k-test in
    omega (arith, turn.invariant.few, turn.invariant.long, test.true, c.requires.m_in_bounds)

pub overflow_add-end : goal.overflow_add-end
overflow_add-end c =
    let turn = c.loop-k in
    let test = c.loop-k-test in
    omega (arith, turn.invariant.few, turn.invariant.long, test.true, c.requires.m_in_bounds)

pub loop-k-preserved : goal.loop-k-preserved
loop-k-preserved c =
    elim c.match-named_second.branch [
      | in-Some w ↦ rw (w.out-is, w.end-is) (moving_more c.loop-k.invariant c.loop-k-test.true c.named_second.ensures w.in-Some.is)
      | in_default w ↦ rw (w.out-is, w.end-is) (moving_past c.loop-k.invariant c.loop-k-test.true c.named_second.ensures w.in_default.is)
    ]

pub shape_of-out : goal.shape_of-out
shape_of-out c = c.loop-k.invariant.long

pub returns : goal.returns
returns c = moving_end c.loop-k.invariant c.loop-k-test.false
