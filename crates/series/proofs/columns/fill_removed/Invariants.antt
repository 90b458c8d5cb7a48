use lib.ListN.{length}
use mathlib.Core.Path.{◌≡◌}
use Rattle.series.proofs.ColumnsLaws.{Filling}
use Rattle.series.proofs.columns.fill_removed.Given as goal

abbrev pub invariant-loop-k : goal.invariant-loop-k
invariant-loop-k l =
    Filling l.c l.cal.text.now l.cal.index.now l.cal.rows.now l.events.links.now l.events.exceptions.now l.m (length l.initial.removed) l.places l.removed l.at l.k × (length l.spare ≡ length l.initial.spare)
