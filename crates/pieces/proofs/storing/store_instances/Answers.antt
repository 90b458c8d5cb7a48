-- `pieces::storing::store_instances` meets its contract: the instances below k have their pieces stored; those before the first candidate have
-- none, and at the end no later one has, or no room is left.
use mathlib.Core.Path.{◌∙◌}
use Rattle.pieces.proofs.ColumnsStoring.{walked_start, walked_more, walked_end, walked_few, walked_long, walked_on}
use native.Mathlib.Omega.{arith}
use Rattle.pieces.proofs.storing.store_instances.Goals as goal

pub first_candidate-k-requires : goal.first_candidate-k-requires
first_candidate-k-requires c =
    record {
      event_small = c.requires.event_small;
      a_le_last_second = omega arith;
    }

pub loop-n-init : goal.loop-n-init
loop-n-init c = walked_start _ _ _ _ _ _ _ c.first_candidate-k.ensures

pub starts_before-requires : goal.starts_before-requires
starts_before-requires c =
    record {
      event_small = c.requires.event_small;
      b_le_last_second = c.requires.b_le_last_second;
      k_bound = omega (arith, c.loop-n.invariant.few);
    }

pub store_instance-n-requires : goal.store_instance-n-requires
store_instance-n-requires c =
    let w = c.loop-n.invariant in
    record {
      room = walked_long w ∙ c.requires.room;
      n_bound = walked_few w c.requires.first_bound;
      event_small = c.requires.event_small;
      ordered = c.requires.ordered;
      k_bound = omega (arith, w.few);
      b_le_last_second = c.requires.b_le_last_second;
    }

pub overflow_add-k : goal.overflow_add-k
overflow_add-k c = omega (arith, c.loop-n.invariant.few)

pub loop-n-smaller : goal.loop-n-smaller
loop-n-smaller c =
    omega (arith, walked_on c.loop-n.n c.starts_before.ensures c.loop-n-test.true)

pub loop-n-preserved : goal.loop-n-preserved
loop-n-preserved c =
    let loop = c.loop-n in
    walked_more loop.invariant (walked_on loop.n c.starts_before.ensures c.loop-n-test.true) c.store_instance-n.ensures

pub shape_of-column : goal.shape_of-column
shape_of-column c = walked_long c.loop-n.invariant

pub returns : goal.returns
returns c = walked_end c.loop-n.invariant c.starts_before.ensures c.loop-n-test.false
