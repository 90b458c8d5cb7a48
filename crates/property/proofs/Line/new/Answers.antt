-- `property::Line::new` meets its contract: behind the colon that follows the name stands the value.
use native.Mathlib.Omega.{arith}
use Rattle.line.proofs.Reading.{plain_at, plain_value}
use Rattle.property.proofs.Line.new.Goals.{then-plain, else-plain}
use Rattle.property.proofs.Line.new.Goals as goal

pub overflow_add-value : goal.overflow_add-value
overflow_add-value c = omega (arith, (plain_at c.args.text.now _ c.requires c.is_plain-plain.ensures c.if-plain.true).inside)

pub slice_bounds-value-count : goal.slice_bounds-value-count
slice_bounds-value-count c = omega (arith, (plain_at c.args.text.now _ c.requires c.is_plain-plain.ensures c.if-plain.true).inside)

pub slice_bounds-value-start : goal.slice_bounds-value-start
slice_bounds-value-start c = omega (arith, (plain_at c.args.text.now _ c.requires c.is_plain-plain.ensures c.if-plain.true).inside)

pub invariant_of-result : goal.invariant_of-result
invariant_of-result c =
    record {
      value_is = elim c.if-plain.branch [
        | then-plain w ↦ rw w.value-is (plain_value c.args.text.now _ (plain_at c.args.text.now _ c.requires c.is_plain-plain.ensures w.if-plain.true))
        | else-plain w ↦ rw w.value-is w.value-value.ensures
      ];
      no_parameters = λ h. (plain_at c.args.text.now _ c.requires c.is_plain-plain.ensures h).no_parameters_holds;
    }
