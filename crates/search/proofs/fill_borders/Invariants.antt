use mathlib.Core.Path.{◌≡◌}
use lib.ListN.{length}
use Rattle.search.specs.Borders.{byte_of}
use Rattle.search.proofs.Borders.{Making}
use Rattle.search.proofs.fill_borders.Given as goal

abbrev pub invariant-loop-i : goal.invariant-loop-i
invariant-loop-i l = (length l.table ≡ length l.initial.table) × Making (byte_of l.collation l.text) (length l.text) l.table l.i l.k
