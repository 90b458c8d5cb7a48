-- `search::fill_borders` meets its contract: the entries below i are made, and k is the next one; the measure is what is left of the text.
use mathlib.Core.Path.{refl}
use native.Mathlib.Omega.{arith}
use lib.ListN.{length-set}
use Rattle.search.specs.Borders.{byte_of}
use Rattle.search.proofs.Borders.{making_start, making_step, making_next, borders_some}
use Rattle.search.proofs.fill_borders.Goals as goal

pub loop-i-init : goal.loop-i-init
loop-i-init c = (refl, making_start _ _ _ c.requires.in_bounds)

pub overflow_cast-table : goal.overflow_cast-table
overflow_cast-table c = omega (arith, c.loop-i.invariant.1.best.order)

pub bounds-table-i : goal.bounds-table-i
bounds-table-i c = omega (arith, c.loop-i.invariant.0)

pub step-k-requires : goal.step-k-requires
step-k-requires c =
    let long = c.loop-i.invariant.0 in
    let making = c.loop-i.invariant.1 in
    record { from_in_bounds = omega (arith, making.best.order); text_in_bounds = simp length-set (omega (arith, long)); borders = making_step making (omega arith) }

pub loop-i-preserved : goal.loop-i-preserved
unfolding byte_of
loop-i-preserved c =
    let long = c.loop-i.invariant.0 in
    let making = c.loop-i.invariant.1 in
    let folded = c.fold.ensures in
    let stepped = c.step-k.ensures in
    (simp length-set long, making_next making (omega arith) (omega arith) folded stepped)

pub shape_of-table : goal.shape_of-table
shape_of-table c = c.loop-i.invariant.0

pub returns : goal.returns
returns c =
    record {
      table_len_unchanged = c.loop-i.invariant.0;
      borders = borders_some _ (omega arith) c.loop-i.invariant.1.so_far;
    }
