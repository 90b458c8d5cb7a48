use mathlib.Core.List.{List}
use Prim.Native.Nat.{ℕ}
use Rattle.std.specs.Iterator.{AlwaysYields}
use Rattle.values.proofs.TimeLists.{StoringTimes}
use Rattle.values.proofs.time_lists.store_times.Given as goal

abbrev pub invariant-loop-item : goal.invariant-loop-item
invariant-loop-item l =
    (left : List (List ℕ)) × AlwaysYields goal.iterator-loop-item.next_gives (λ x. x.now) l.item-iterator left
    × StoringTimes l.c l.form l.v l.initial.found l.initial.column l.first l.found l.column l.n left
