use Rattle.structure.specs.Rows.{component_by}
use Rattle.nesting.specs.Components.{properties_in}
use Prim.Native.Nat.{◌-◌}
use Rattle.series.proofs.UidLaws.{Asking}
use Rattle.series.proofs.uids.lines_have.Given as goal

abbrev pub invariant-loop-i : goal.invariant-loop-i
invariant-loop-i l = Asking l.c l.cal.text.now l.cal.rows.now l.u (properties_in (component_by l.cal.text.now l.cal.rows.now l.k).items) l.i l.row l.stop l.last

abbrev pub decreases-loop-i : goal.decreases-loop-i
decreases-loop-i l = l.stop - l.i
