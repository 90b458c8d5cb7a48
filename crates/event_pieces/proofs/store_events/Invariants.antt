use Prim.Native.Nat.{◌-◌}
use lib.ListN.{get_or}
use Rattle.values.specs.declared.times.Context.{Context}
use Rattle.contents.specs.EntryRows.{EntryRows}
use Rattle.series.specs.Columns.{RemovedRows}
use Rattle.event_pieces.proofs.Removed.{StoringEvents}
use Rattle.event_pieces.proofs.store_events.Given as goal

-- in whatever context the rows are known
abbrev pub invariant-loop-k : goal.invariant-loop-k
invariant-loop-k l = (c : Context) → EntryRows c l.cal.text.now l.cal.rows.now l.entries (get_or l.cal.rows.now 2 0) → RemovedRows c l.cal.text.now l.cal.rows.now l.removed.places.now l.removed.seconds.now (get_or l.cal.rows.now 2 0) → StoringEvents c l.a l.b l.cal.text.now l.cal.rows.now l.initial.column l.first l.m l.column l.n l.k

abbrev pub decreases-loop-k : goal.decreases-loop-k
decreases-loop-k l = l.m - l.k
