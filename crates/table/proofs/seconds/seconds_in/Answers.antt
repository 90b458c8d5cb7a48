-- `table::seconds::seconds_in` meets its contract: the loop keeps that what is counted and what is left make the whole, and that each row is small.
use Prim.Native.Nat.{◌-◌}
use mathlib.Core.Path.{◌≡◌}
use lib.ListN.{get_or}
use Rattle.table.specs.Tables.{starts_of, ends_of}
use native.Mathlib.Omega.{arith}
use Rattle.table.proofs.SecondsLaws.{counted_start, counted_more, counted_end}
use Rattle.table.proofs.Spans.{starts_long, ends_even, start_at, end_at}
use Rattle.table.proofs.seconds.seconds_in.Goals as goal

pub loop-i-init : goal.loop-i-init
loop-i-init c = counted_start

pub loop-i-preserved : goal.loop-i-preserved
loop-i-preserved c =
    let spans = c.args.spans.now in
    let i = c.loop-i.i in
    let span : c.from-sum.result ≡ get_or (ends_of spans) i 0 - get_or (starts_of spans) i 0 = omega (arith, c.from-sum.ensures, c.saturating_sub.ensures, start_at spans i, end_at spans i) in
    counted_more c.loop-i.invariant (omega (arith, starts_long spans)) (ends_even spans) (omega arith) span (omega (arith, c.from-sum.ensures, c.saturating_sub.type_inv))

pub returns : goal.returns
returns c = counted_end c.loop-i.invariant (omega arith)
