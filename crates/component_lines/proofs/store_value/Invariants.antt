use mathlib.Core.List.{List}
use Prim.Native.Nat.{ℕ}
use Rattle.std.specs.Iterator.{AlwaysYields}
use Rattle.component_lines.proofs.LinesStoring.{ReadingValue}
use Rattle.component_lines.proofs.store_value.Given as goal

abbrev pub invariant-loop-item : goal.invariant-loop-item
invariant-loop-item l =
    (left : List (List ℕ)) × AlwaysYields goal.iterator-loop-item.next_gives (λ x. x.now) l.item-iterator left
    × ReadingValue l.busy l.v l.a l.b l.initial.column l.first l.column l.n left
