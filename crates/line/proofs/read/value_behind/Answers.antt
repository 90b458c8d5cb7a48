-- `line::read::value_behind` meets its contract: in a plain line the value stands behind the colon that follows the name.
use Rattle.line.proofs.Reading.{plain_at, plain_value}
use native.Mathlib.Omega.{arith}
use Rattle.line.proofs.read.value_behind.Goals as goal

pub overflow_add-result : goal.overflow_add-result
overflow_add-result c = omega (arith, (plain_at c.args.line.now _ c.requires c.is_plain.ensures c.if-is_plain.true).inside)

pub slice_bounds-result-count : goal.slice_bounds-result-count
slice_bounds-result-count c = omega (arith, (plain_at c.args.line.now _ c.requires c.is_plain.ensures c.if-is_plain.true).inside)

pub slice_bounds-result-start : goal.slice_bounds-result-start
slice_bounds-result-start c = omega (arith, (plain_at c.args.line.now _ c.requires c.is_plain.ensures c.if-is_plain.true).inside)

pub returns-then-is_plain : goal.returns-then-is_plain
returns-then-is_plain c = plain_value c.args.line.now _ (plain_at _ _ c.requires c.is_plain.ensures c.if-is_plain.true)
