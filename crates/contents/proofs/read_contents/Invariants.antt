use Prim.Native.Nat.{◌-◌}
use mathlib.Core.Path.{◌≡◌}
use lib.ListN.{length}
use Rattle.contents.proofs.Contents.{ReadingContents}
use Rattle.contents.proofs.read_contents.Given as goal

abbrev pub invariant-loop-k : goal.invariant-loop-k
invariant-loop-k l =
    ReadingContents l.c l.a l.b l.cal.text.now l.cal.index.now l.cal.rows.now l.initial.column l.m (record { pieces = l.column; entries = l.entries; excluded = l.exceptions; links = l.links }) l.rules l.n l.held l.k × (length l.exceptions ≡ length l.initial.exceptions)

abbrev pub decreases-loop-k : goal.decreases-loop-k
decreases-loop-k l = l.m - l.k
