-- `table::take_in` meets its contract: while the loop goes on, taking in what is left with the widened span is taking in the whole with the first.
use Prim.Native.Nat.{ℕ, min, max}
use mathlib.Core.Path.{sym, ap, ◌∙◌}
use Rattle.table.proofs.Columns.{taking_more, taking_stop, taking_end}
use Rattle.table.proofs.Spans.{starts_long, ends_long, start_at, end_at}
use native.Mathlib.Omega.{arith}
use Rattle.table.proofs.take_in.Goals as goal

pub returns-then-end-row : goal.returns-then-end-row
returns-then-end-row c =
    let spans = c.args.spans.now in
    taking_stop c.loop-next.invariant (omega arith) (omega (arith, starts_long spans)) (omega (arith, ends_long spans)) (omega (arith, start_at spans c.loop-next.next))

pub loop-next-preserved : goal.loop-next-preserved
loop-next-preserved c =
    let spans = c.args.spans.now in
    let next = c.loop-next.next in
    let lesser = c.min-start.ensures ∙ ap (λ (x : ℕ). min c.loop-next.start x) (sym (start_at spans next)) in
    let greater = c.max-end.ensures ∙ ap (λ (x : ℕ). max c.loop-next.end x) (sym (end_at spans next)) in
    taking_more c.loop-next.invariant (omega arith) (omega (arith, starts_long spans)) (omega (arith, ends_long spans)) (omega (arith, start_at spans next)) lesser greater

pub returns : goal.returns
returns c = taking_end c.loop-next.invariant (omega arith)
