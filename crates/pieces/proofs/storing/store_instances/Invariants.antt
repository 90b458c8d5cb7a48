use Prim.Native.Nat.{◌-◌}
use Rattle.recurrence.specs.Instances.{instances_at_most}
use Rattle.pieces.proofs.ColumnsStoring.{Walked}
use Rattle.pieces.proofs.storing.store_instances.Given as goal

abbrev pub invariant-loop-n : goal.invariant-loop-n
invariant-loop-n l = Walked l.e l.gone l.a l.b l.initial.column l.first l.column l.n l.k

abbrev pub decreases-loop-n : goal.decreases-loop-n
decreases-loop-n l = instances_at_most - l.k
