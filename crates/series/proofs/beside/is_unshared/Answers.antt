-- `series::beside::is_unshared` meets its contract: of a master its mark tells, or a search of the column.
use mathlib.Core.Path.{refl}
use Rattle.series.proofs.PrintLaws.{unshared_marked, unshared_new, unshared_no}
use native.Mathlib.Omega.{arith}
use Rattle.series.proofs.beside.is_unshared.Goals as goal

pub bounds-known-k : goal.bounds-known-k
bounds-known-k c = omega (arith, c.requires.mark_room, c.requires.few)

pub returns-then-known-k-eq0 : goal.returns-then-known-k-eq0
returns-then-known-k-eq0 c = unshared_marked c.requires c.in-None.is c.if-known-k-eq0.true

pub overflow_add-print : goal.overflow_add-print
overflow_add-print c = omega (arith, c.requires.room, c.requires.few)

pub offset_bounds-known-k : goal.offset_bounds-known-k
offset_bounds-known-k c = omega (arith, c.requires.room, c.requires.few)

pub bounds-known-k-in-None : goal.bounds-known-k-in-None
bounds-known-k-in-None c = omega (arith, c.requires.room, c.requires.few)

pub is_new-requires : goal.is_new-requires
is_new-requires c =
    record {
      prints_len = c.requires.room;
      n_bound = omega (arith, c.requires.few);
    }

pub returns-else-known-k-eq0 : goal.returns-else-known-k-eq0
returns-else-known-k-eq0 c = unshared_new c.in-None.is refl c.is_new.ensures

pub returns-in-One : goal.returns-in-One
returns-in-One c = unshared_no _ _ _

pub returns-in-Several : goal.returns-in-Several
returns-in-Several c = unshared_no _ _ _
