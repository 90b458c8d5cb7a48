use Prim.Native.Nat.{◌-◌}
use Rattle.nesting.specs.Components.{properties_in}
use Rattle.structure.specs.Rows.{component_by}
use Rattle.component_lines.proofs.Lines.{ReadingLines}
use Rattle.component_lines.proofs.Identities.{ReadingTies}
use Rattle.component_lines.proofs.read_lines.Given as goal

abbrev pub invariant-loop-next : goal.invariant-loop-next
invariant-loop-next l =
    ReadingLines l.c l.scope l.cal.text.now l.cal.rows.now (properties_in (component_by l.cal.text.now l.cal.rows.now l.k).items) l.a l.b l.initial.column l.first l.column l.n l.g l.i l.row l.stop l.last
    × ReadingTies l.c l.scope l.cal.text.now l.cal.index.now (properties_in (component_by l.cal.text.now l.cal.rows.now l.k).items) l.initial.exceptions l.held l.exceptions l.y l.i

abbrev pub decreases-loop-next : goal.decreases-loop-next
decreases-loop-next l = l.stop - l.i
