-- `table::splice` meets its contract: the rest was copied behind the place, and the store fills it, in both columns.
use Rattle.table.specs.declared.Span.{Span}
use Rattle.table.proofs.Spans.{spliced_spans}
use native.Mathlib.Omega.{arith}
use Rattle.table.proofs.splice.Goals as goal

pub returns : goal.returns
returns c =
    let moved = c.copy_within.ensures.after in
    (spliced_spans (λ (s : Span). s.start) _ _ moved (omega arith) (omega arith) (omega arith), spliced_spans (λ (s : Span). s.end) _ _ moved (omega arith) (omega arith) (omega arith))
