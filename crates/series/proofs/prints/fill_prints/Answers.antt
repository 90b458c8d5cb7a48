-- `series::prints::fill_prints` meets its contract: the fingerprints of the rows before row k stand, and each is noted.
use mathlib.Core.Path.{sym, ◌∙◌}
use Rattle.series.proofs.PrintLaws.{printing_start, printing_more, printing_end}
use native.Mathlib.Omega.{arith}
use Rattle.series.proofs.prints.fill_prints.Goals as goal

pub loop-k-init : goal.loop-k-init
loop-k-init c =
    printing_start _ _ _ _ c.requires.prints_len.0 c.requires.prints_len.1 c.requires.prints_len.2

pub row_print-print-requires : goal.row_print-print-requires
row_print-print-requires c = c.requires.tied.each _ c.loop-k-test.true

pub overflow_add-prints : goal.overflow_add-prints
overflow_add-prints c = omega (arith, c.loop-k.invariant.so_far.room, c.requires.tied.few)

pub offset_bounds-prints-k : goal.offset_bounds-prints-k
offset_bounds-prints-k c = omega (arith, c.loop-k.invariant.so_far.room, c.requires.tied.few)

pub bounds-prints-k : goal.bounds-prints-k
bounds-prints-k c = omega (arith, c.loop-k.invariant.so_far.room, c.requires.tied.few)

pub bounds-notes-place : goal.bounds-notes-place
bounds-notes-place c = omega (arith, c.loop-k.invariant.note_room, c.note_place-place.ensures.upper_bound)

pub bounds-marks-k : goal.bounds-marks-k
bounds-marks-k c = omega (arith, c.loop-k.invariant.so_far.mark_room, c.requires.tied.few)

pub bounds-notes-place-in-loop-k : goal.bounds-notes-place-in-loop-k
bounds-notes-place-in-loop-k c = omega (arith, c.loop-k.invariant.note_room, c.note_place-place.ensures.upper_bound)

pub loop-k-preserved : goal.loop-k-preserved
loop-k-preserved c =
    let turn = c.loop-k in
    let test = c.loop-k-test in
    printing_more turn.invariant c.requires.tied.few test.true c.row_print-print.ensures c.note_place-place.ensures.value c.note_place-place.ensures.upper_bound

pub shape_of-prints : goal.shape_of-prints
shape_of-prints c = c.loop-k.invariant.so_far.room ∙ sym c.requires.prints_len.0

pub shape_of-marks : goal.shape_of-marks
shape_of-marks c = c.loop-k.invariant.so_far.mark_room ∙ sym c.requires.prints_len.1

pub shape_of-notes : goal.shape_of-notes
shape_of-notes c = c.loop-k.invariant.note_room ∙ sym c.requires.prints_len.2

pub returns : goal.returns
returns c = printing_end c.loop-k.invariant c.loop-k-test.false
