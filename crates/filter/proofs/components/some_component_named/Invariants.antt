use Prim.Native.Nat.{◌-◌}
use Rattle.filter.specs.Tests.{some_component_named}
use Rattle.filter.proofs.Tests.{Beside}
use Rattle.filter.proofs.components.some_component_named.Given as goal

abbrev pub invariant-loop-k : goal.invariant-loop-k
invariant-loop-k l = Beside (some_component_named l.name) l.cal.text.now l.cal.rows.now l.first l.end l.k

abbrev pub decreases-loop-k : goal.decreases-loop-k
decreases-loop-k l = l.end - l.k
