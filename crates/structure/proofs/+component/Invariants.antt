-- The measure is how many components may still be open inside each other; the lines read so far are items whose rows stand, and leave the outcome
-- to the lines that are left.
use Prim.Native.Nat.{◌-◌}
use Rattle.structure.proofs.Reading.{Reading}
use Rattle.structure.proofs.+component.Given as goal

abbrev pub decreases-component : goal.decreases-component
decreases-component l = l.left

abbrev pub invariant-loop-i : goal.invariant-loop-i
invariant-loop-i l = Reading l.s l.index l.name l.initial.rows l.rows l.n l.first l.begun l.left l.i l.k

abbrev pub decreases-loop-i : goal.decreases-loop-i
decreases-loop-i l = l.n - l.i
