-- `pieces::storing::put_piece` meets its contract: three stores, one behind the other.
use Prim.Native.Nat.{◌+◌, ◌*◌, ◌≤◌, ◌<◌}
use lib.ListN.{length}
use lib.Seq.{lt-length-set}
use Rattle.periods.specs.declared.BusyType.{BusyType}
use Rattle.periods.specs.BusyTypes.{report_place}
use Rattle.pieces.proofs.Columns.{three_stores, stored_twice}
use native.Mathlib.Omega.{arith}
use Rattle.pieces.proofs.storing.put_piece.Goals as goal

pub bounds-column-at-2 : goal.bounds-column-at-2
bounds-column-at-2 c = lt-length-set c.args.column.now _ _ (let z : 3 * c.args.n + 1 < length c.args.column.now = omega arith in z)

pub bounds-column-at-3 : goal.bounds-column-at-3
bounds-column-at-3 c =
    let column = c.args.column.now in
    let place = 3 * c.args.n in
    let room : place + 2 < length column = omega arith in
    stored_twice column place c.args.from (place + 1) c.args.to room

pub returns : goal.returns
returns c = rw (← c.report_place.ensures) (three_stores c.args.column.now (3 * c.args.n) c.args.from c.args.to c.report_place.result)

place_small : (b : BusyType) → report_place b ≤ 3
unfolding report_place
place_small BusyType.Busy = omega arith
place_small BusyType.Tentative = omega arith
place_small BusyType.Unavailable = omega arith
place_small BusyType.Free = omega arith

pub overflow_cast-column-3 : goal.overflow_cast-column-3
overflow_cast-column-3 c = omega (arith, c.report_place.ensures, place_small c.args.busy)
