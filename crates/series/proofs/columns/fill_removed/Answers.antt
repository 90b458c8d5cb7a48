-- `series::columns::fill_removed` meets its contract: the rows before row k are filled in, and there is room for any row that is left.
use mathlib.Core.Path.{refl, sym, ◌∙◌}
use Rattle.series.proofs.ColumnsLaws.{filling_start, filling_fits, filling_row, filling_size, filling_small, filling_on, filling_end, behind_long, none_behind}
use native.Mathlib.Omega.{arith}
use Rattle.series.proofs.columns.fill_removed.Goals as goal

pub loop-k-init : goal.loop-k-init
loop-k-init c =
    let args_told = c.args in
    (filling_start c.requires.removable c.requires.exceptions_in_bounds args_told.places.now args_told.removed.now c.requires.places_len refl, refl)

pub offset_bounds-removed-at : goal.offset_bounds-removed-at
offset_bounds-removed-at c =
    omega (arith, filling_fits c.requires.removable c.requires.exceptions_in_bounds c.loop-k.invariant.0)

pub slice_bounds-fill_row-count : goal.slice_bounds-fill_row-count
slice_bounds-fill_row-count c =
    omega (arith, filling_fits c.requires.removable c.requires.exceptions_in_bounds c.loop-k.invariant.0)

pub slice_bounds-fill_row-start : goal.slice_bounds-fill_row-start
slice_bounds-fill_row-start c =
    omega (arith, filling_fits c.requires.removable c.requires.exceptions_in_bounds c.loop-k.invariant.0)

pub slice_bounds-fill_row-end : goal.slice_bounds-fill_row-end
slice_bounds-fill_row-end c =
    omega (arith, filling_fits c.requires.removable c.requires.exceptions_in_bounds c.loop-k.invariant.0)

pub fill_row-at-requires : goal.fill_row-at-requires
fill_row-at-requires c =
    let turn = c.loop-k in
    record {
      row_fillable = filling_row c.requires.removable c.requires.exceptions_in_bounds turn.invariant.0 c.loop-k-test.true (behind_long turn.removed turn.at turn.invariant.0.removed_long);
      out_in_bounds = omega (arith, behind_long turn.removed turn.at turn.invariant.0.removed_long, turn.invariant.1, c.requires.removed_in_bounds);
    }

pub overflow_add-at : goal.overflow_add-at
overflow_add-at c =
    let turn = c.loop-k in
    let test = c.loop-k-test in
    let fill_row_told = c.fill_row-at in
    let removed_told = c.removed-1 in
    omega (arith, filling_small c.requires.removable c.requires.exceptions_in_bounds turn.invariant.0 test.true fill_row_told.ensures (filling_size c.requires.removable c.requires.exceptions_in_bounds turn.invariant.0 fill_row_told.new.out removed_told.given.0), c.requires.removed_len_bound)

pub overflow_cast-places : goal.overflow_cast-places
overflow_cast-places c =
    let turn = c.loop-k in
    let test = c.loop-k-test in
    let fill_row_told = c.fill_row-at in
    let removed_told = c.removed-1 in
    omega (arith, filling_small c.requires.removable c.requires.exceptions_in_bounds turn.invariant.0 test.true fill_row_told.ensures (filling_size c.requires.removable c.requires.exceptions_in_bounds turn.invariant.0 fill_row_told.new.out removed_told.given.0), c.requires.removed_len_bound)

pub offset_bounds-places-k : goal.offset_bounds-places-k
offset_bounds-places-k c =
    let turn = c.loop-k in
    omega (arith, turn.invariant.0.places_long, c.requires.removable.few)

pub bounds-places-k : goal.bounds-places-k
bounds-places-k c =
    let turn = c.loop-k in
    omega (arith, turn.invariant.0.places_long, c.requires.removable.few)

pub loop-k-preserved : goal.loop-k-preserved
loop-k-preserved c =
    let turn = c.loop-k in
    let test = c.loop-k-test in
    let fill_row_told = c.fill_row-at in
    let removed_told = c.removed-1 in
    (filling_on c.requires.removable c.requires.exceptions_in_bounds turn.invariant.0 test.true fill_row_told.ensures (filling_size c.requires.removable c.requires.exceptions_in_bounds turn.invariant.0 fill_row_told.new.out removed_told.given.0) (none_behind turn.removed turn.at), omega (arith, c.spare-1.given, turn.invariant.1))

pub shape_of-places : goal.shape_of-places
shape_of-places c = c.loop-k.invariant.0.places_long ∙ sym c.requires.places_len

pub shape_of-removed : goal.shape_of-removed
shape_of-removed c = c.loop-k.invariant.0.removed_long

pub shape_of-spare : goal.shape_of-spare
shape_of-spare c = c.loop-k.invariant.1

pub returns : goal.returns
returns c =
    filling_end c.requires.removable c.requires.exceptions_in_bounds c.loop-k.invariant.0 c.loop-k-test.false
