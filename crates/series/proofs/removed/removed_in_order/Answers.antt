-- `series::removed::removed_in_order` meets its contract: the part that was stored is put in order, and the rest stays.
use Rattle.series.proofs.RemovedLaws.{stored_fits, front_long, ordered_long, ordered_front}
use mathlib.Core.Path.{sym}
use native.Mathlib.Omega.{arith}
use Rattle.series.proofs.removed.removed_in_order.Goals as goal

pub store_removed-n-requires : goal.store_removed-n-requires
store_removed-n-requires c =
    record {
      takeable = c.requires.takeable;
      m_in_bounds = c.requires.m_in_bounds;
    }

pub slice_bounds-sort-end : goal.slice_bounds-sort-end
slice_bounds-sort-end c = stored_fits c.store_removed-n.ensures

pub slice_bounds-sort-end-2 : goal.slice_bounds-sort-end-2
slice_bounds-sort-end-2 c = sym (front_long c.store_removed-n.ensures)

pub sort-requires : goal.sort-requires
sort-requires c =
    let store_removed_told = c.store_removed-n in
    omega (arith, front_long store_removed_told.ensures, store_removed_told.ensures.within, c.requires.out_in_bounds)

pub shape_of-out : goal.shape_of-out
shape_of-out c = ordered_long c.store_removed-n.ensures c.sort.ensures

pub returns : goal.returns
returns c = ordered_front c.store_removed-n.ensures c.sort.ensures
